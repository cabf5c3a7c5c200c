pub mod Spread
pub mod Bounds
pub mod FuturesPrices

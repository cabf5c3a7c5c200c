pub mod Terms
pub mod Minute
pub mod FuturesPrices
pub mod Market

pub mod Prices
pub mod PriceLimits

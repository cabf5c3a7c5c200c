pub mod Price
pub mod PriceLimits

pub mod Table
pub mod Bounds
pub mod PriceRules

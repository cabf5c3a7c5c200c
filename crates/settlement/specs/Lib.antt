pub mod Fixing
pub mod Table
pub mod PriceRules

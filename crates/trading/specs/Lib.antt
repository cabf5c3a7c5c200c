pub mod Trading
pub mod Inner

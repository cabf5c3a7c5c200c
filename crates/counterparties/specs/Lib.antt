pub mod Counterparties
pub mod Inner

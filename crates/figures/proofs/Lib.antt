pub mod Held
pub mod Rates

pub mod Columns
pub mod Limits

pub mod Passed
pub mod Keeping

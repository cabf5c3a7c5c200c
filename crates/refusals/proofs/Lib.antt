pub mod Passed
pub mod Numbers

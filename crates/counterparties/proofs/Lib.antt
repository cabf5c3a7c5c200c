pub mod Present
pub mod Raised

pub mod Reading
pub mod Forward
pub mod Calls
pub mod Example

pub mod Calls
pub mod Length
pub mod Time
pub mod Trade

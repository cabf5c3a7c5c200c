pub mod Calendar
pub mod Table
pub mod Dates

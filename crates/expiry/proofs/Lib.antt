pub mod Dates
pub mod LastFridays

pub mod History
pub mod LastMinute
pub mod MarketTimes
pub mod Cash
pub mod Demand3

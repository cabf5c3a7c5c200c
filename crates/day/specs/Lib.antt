pub mod Day
pub mod Limits
pub mod MinuteRules

pub mod Held
pub mod MinuteRules

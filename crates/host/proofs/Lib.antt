pub mod Settling
pub mod OneRun

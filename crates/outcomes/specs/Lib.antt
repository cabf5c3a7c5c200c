pub mod Effects
pub mod Outcome

pub mod Effects
pub mod Inner

pub mod Figures
pub mod Fixing

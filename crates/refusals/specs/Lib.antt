pub mod Refusals
pub mod Sets

pub mod Accruing

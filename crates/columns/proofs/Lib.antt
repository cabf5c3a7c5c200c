pub mod Accounts
pub mod Filling

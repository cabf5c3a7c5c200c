pub mod Placing
pub mod Lengths
pub mod Decimal
pub mod Examples

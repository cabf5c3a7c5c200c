pub mod Dividing
pub mod Rounding
pub mod Size
pub mod Lists

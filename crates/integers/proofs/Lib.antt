pub mod Laws
pub mod Sizes
pub mod Order
pub mod Ring
pub mod Overflow
pub mod Dividing
pub mod Rounding
pub mod Tests

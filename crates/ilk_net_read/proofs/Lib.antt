pub mod Values
pub mod InOrder
pub mod Limits

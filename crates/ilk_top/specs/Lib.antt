pub mod Outside
pub mod Handled
pub mod Feeding

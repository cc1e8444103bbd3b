pub mod Right
pub mod Order
pub mod Spent
pub mod Asked
pub mod Due
pub mod Certified
pub mod Decision

pub mod Order
pub mod Numbered
pub mod Read

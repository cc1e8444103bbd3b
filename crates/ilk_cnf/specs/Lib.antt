pub mod Literal
pub mod Code
pub mod Marks
pub mod Formula
pub mod Truth
pub mod Part
pub mod Extends
pub mod Flat

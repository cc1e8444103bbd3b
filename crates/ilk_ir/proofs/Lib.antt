pub mod Ranges
pub mod Trees

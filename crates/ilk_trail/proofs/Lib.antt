pub mod Literals
pub mod Entries
pub mod Levels
pub mod Values
pub mod Kept

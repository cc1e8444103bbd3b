pub mod Taken
pub mod Added
pub mod Untold

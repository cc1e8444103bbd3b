pub mod Asked
mod Examples
pub mod Flagged
pub mod Last
pub mod Shared
pub mod Once

pub mod Walk
pub mod Asked
pub mod Lifting
pub mod Goal

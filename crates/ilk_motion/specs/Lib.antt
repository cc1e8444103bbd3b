pub mod Ahead
pub mod Body
pub mod Trains
pub mod TwoSections

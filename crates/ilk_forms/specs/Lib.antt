pub mod Copy
pub mod Leaf
pub mod Bound
pub mod Gates
pub mod Gathered
pub mod Demand
pub mod Size
pub mod Violated

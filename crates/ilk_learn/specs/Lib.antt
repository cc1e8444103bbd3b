pub mod Resolvent
pub mod Levels
pub mod Learning
pub mod Asserting
pub mod Hand

pub mod Bits
pub mod Number
pub mod OneOf
pub mod AtMost
pub mod Named

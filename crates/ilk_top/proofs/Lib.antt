pub mod Ends
pub mod Fed
pub mod Joined
pub mod Poured
pub mod Strict

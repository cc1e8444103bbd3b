pub mod Arena
pub mod Chains
pub mod Words
pub mod Linked

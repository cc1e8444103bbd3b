pub mod Trail
pub mod Laws
pub mod Stored

pub mod Audited
pub mod Taken
pub mod Hinted
pub mod Codes
pub mod Stored

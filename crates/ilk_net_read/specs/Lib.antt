pub mod Fault
pub mod Member
pub mod Version
pub mod Document
pub mod Section
pub mod Network
pub mod Seen

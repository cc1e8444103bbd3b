pub mod Locks
pub mod Commands
pub mod Shape
pub mod Example
pub mod ProtectionExample

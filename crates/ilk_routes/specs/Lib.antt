pub mod Modes
pub mod Locks
pub mod Claims
pub mod Boards
pub mod Lies
pub mod Points
pub mod Routes

pub mod Mapped
pub mod Tails
pub mod Chased
pub mod Same
pub mod Examples

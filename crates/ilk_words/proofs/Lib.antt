pub mod WalkPlaces
pub mod FaultPlaces
pub mod Places
pub mod Numbers
pub mod Outcomes
pub mod Examples

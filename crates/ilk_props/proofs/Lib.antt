pub mod Leaves
pub mod Joined
pub mod WellformedHolds
pub mod HazardHolds
pub mod StartHolds
pub mod FormsValid
pub mod Made
pub mod Examples

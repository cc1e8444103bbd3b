pub mod Reasons
pub mod Chained
pub mod Held
pub mod Propagated
pub mod Watched
pub mod Look
pub mod Visits
pub mod Found

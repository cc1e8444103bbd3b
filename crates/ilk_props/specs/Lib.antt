pub mod HazardForm
pub mod WellformedForm
pub mod StartForm
pub mod Laws

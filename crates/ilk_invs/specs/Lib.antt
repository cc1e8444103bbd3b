pub mod Parts
pub mod Held
pub mod RouteFamilies
pub mod HoldFamilies
pub mod PointFamily
pub mod TrainFamilies
pub mod FamilyTrees
pub mod Laws

pub mod Guards
pub mod Settings
pub mod RouteRules
pub mod PointRules
pub mod TrainRules
pub mod Behaviour
pub mod Numbered
pub mod Steps

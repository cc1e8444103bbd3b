pub mod ChoiceLaw
pub mod Firing
pub mod FrameLaw
pub mod FrameSteps
pub mod RulesLaw
pub mod RulesSteps
pub mod StepLaw
pub mod Few

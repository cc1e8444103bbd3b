pub mod Literals
pub mod Distinct
pub mod Parts
pub mod Gates
pub mod Extending
pub mod SameLiterals
pub mod Cuts
pub mod MarkedVars

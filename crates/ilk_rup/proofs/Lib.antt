mod Cuts
pub mod Alike
pub mod Explaining
pub mod Needing
pub mod Sets
pub mod Passing
pub mod Explained
pub mod Assuming
pub mod Keeping
pub mod Holds
pub mod Deriving
pub mod Signs
pub mod Taking
pub mod FirstItem
pub mod Items
pub mod Judging
pub mod Bounds

pub mod DimacsText
pub mod Left

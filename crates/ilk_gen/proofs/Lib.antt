pub mod Upwards
pub mod Rules
pub mod Sixteen
pub mod Reading
pub mod Steps
pub mod WrittenConflicts
pub mod ComputedLimits
pub mod ComputedNetwork
pub mod ComputedTable
pub mod ComputedColumns
pub mod ComputedTexts
mod Examples

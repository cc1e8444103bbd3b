pub mod Lines
pub mod FormulaTexts
pub mod Left
pub mod AfterHeader

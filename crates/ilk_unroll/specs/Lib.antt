pub mod Goal
pub mod Run
pub mod Query
pub mod Satisfied
pub mod Assignment
pub mod Tables
pub mod Represented
pub mod Evidence

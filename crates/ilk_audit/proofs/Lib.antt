pub mod Derived
pub mod Numbers
pub mod Tables
pub mod Blocks
pub mod Scans
pub mod Faults
pub mod Examples

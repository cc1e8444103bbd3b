pub mod Numbered
pub mod Returning
pub mod Tables

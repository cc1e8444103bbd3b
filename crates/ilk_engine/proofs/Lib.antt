pub mod Carried
pub mod Fired
pub mod Ends
pub mod Verdicts
pub mod Made
pub mod Certificates
pub mod Strict

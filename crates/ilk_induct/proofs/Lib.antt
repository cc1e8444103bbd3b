pub mod Orders
pub mod Breaches
pub mod Follows
pub mod Certified
pub mod Certificates
pub mod Wantable
pub mod Examples

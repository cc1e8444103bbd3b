pub mod Right
pub mod Forever
pub mod AskedOf
pub mod CertificateOf
pub mod Lifted

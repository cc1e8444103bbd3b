pub mod CertificateText
pub mod Certificate
pub mod Kept
pub mod Writing

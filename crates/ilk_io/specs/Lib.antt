pub mod Faults
pub mod Source
pub mod Sink
pub mod ReadError
pub mod Plan
pub mod Memory
pub mod Adapters

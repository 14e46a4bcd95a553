pub mod Agreement
pub mod Scripts
pub mod Traces
pub mod Example
pub mod Descriptors

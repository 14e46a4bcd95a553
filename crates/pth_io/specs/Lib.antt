pub mod Attempts
pub mod Answered
pub mod Reading
pub mod Writing
pub mod Readiness
pub mod Ready

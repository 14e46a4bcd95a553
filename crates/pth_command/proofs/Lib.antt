pub mod Getters
pub mod Parsed
pub mod Ranges

pub mod Handling
pub mod Saying
pub mod Giving
pub mod Whole

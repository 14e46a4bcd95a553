pub mod Objects
pub mod Output
pub mod Faults
pub mod Filter
pub mod Answers
pub mod Help

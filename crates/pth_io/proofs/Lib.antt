pub mod Found
pub mod Live
pub mod Selecting

pub mod Rows
pub mod Calls
pub mod Stacks
pub mod Within

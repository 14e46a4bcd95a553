pub mod CallOf
pub mod CallLines
pub mod Placed
pub mod LineSteps
pub mod Script

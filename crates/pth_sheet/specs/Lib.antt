pub mod Outcomes
pub mod States
pub mod Events
pub mod Runs

pub mod Seats
pub mod Conditions
pub mod Barriers
pub mod Rounds
pub mod Kept

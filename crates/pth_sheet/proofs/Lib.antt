pub mod Accepting
pub mod Awakenings
pub mod Cases
pub mod Claims
pub mod Passes

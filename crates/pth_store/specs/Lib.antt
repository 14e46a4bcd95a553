pub mod Storing
pub mod Keys
pub mod Cleanups

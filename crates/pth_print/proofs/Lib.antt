pub mod Cuts
pub mod Threads
pub mod Members
pub mod Made

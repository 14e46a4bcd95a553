pub mod Bits
pub mod Sweeps
pub mod Ownerships
pub mod Counts
pub mod Holdings
pub mod Joins
pub mod Listings
pub mod LockListings

pub mod Attempts
pub mod Io
pub mod Rests
pub mod Verdicts
pub mod Looking
pub mod Dormant
pub mod Room

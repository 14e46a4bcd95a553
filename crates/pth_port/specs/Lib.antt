pub mod Mail
pub mod Ports

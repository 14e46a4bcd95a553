pub mod Ring
pub mod Rings
pub mod Links
pub mod Nodes
pub mod Arena
pub mod Claims

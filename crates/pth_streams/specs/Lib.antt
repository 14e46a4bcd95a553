pub mod Faults
pub mod InMemory
pub mod Counted
pub mod Inputs
pub mod Pieces
pub mod Scene

pub mod Quiescence
pub mod MachineOf
pub mod NonWaking
pub mod Passing
pub mod Running

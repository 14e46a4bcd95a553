pub mod Plan
pub mod Laws
pub mod PosixProgram
pub mod Posix
pub mod Listed

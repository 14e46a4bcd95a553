pub mod Bytes
pub mod Hex
pub mod LineEnd
pub mod Number
pub mod LineWords

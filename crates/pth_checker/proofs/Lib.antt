pub mod Rising
pub mod Alive
pub mod Parsed
pub mod Heard
pub mod Judging
pub mod Opened
pub mod OneOutput
pub mod Running

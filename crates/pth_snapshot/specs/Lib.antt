pub mod Dump
pub mod Leading
pub mod Loading
pub mod Numbers
pub mod Place

pub mod Answering
pub mod AskedHelp
pub mod GivenHelp

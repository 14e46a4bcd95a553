pub mod Fitting
pub mod Following
pub mod Judging
pub mod Judged
pub mod VerdictLines
pub mod Session
pub mod Words
pub mod Check

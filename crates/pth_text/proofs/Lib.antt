pub mod LineEnds
pub mod Numbers
pub mod Pairs

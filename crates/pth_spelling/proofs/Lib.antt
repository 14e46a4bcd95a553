pub mod Tables
pub mod Names
pub mod Sets
pub mod Options
pub mod Pairs
pub mod Wrong
pub mod Fine

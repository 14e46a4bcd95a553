pub mod Texts
pub mod Named
pub mod WordMeanings
pub mod Syntax
pub mod Args
pub mod Keywords
pub mod Starts
pub mod FormRules

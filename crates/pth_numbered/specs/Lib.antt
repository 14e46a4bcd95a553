pub mod Clauses
pub mod Numbered
pub mod Operands

pub mod Relations
pub mod Values
pub mod LastAnswer

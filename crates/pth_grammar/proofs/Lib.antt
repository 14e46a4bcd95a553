pub mod ArgumentLemmas
pub mod CallLines
pub mod RowLemmas
pub mod KernelReadable
pub mod KernelRanges
pub mod Readable
pub mod Fine

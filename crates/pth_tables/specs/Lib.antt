pub mod Counted
pub mod CountedOf
pub mod Counts
pub mod DueTable
pub mod Marks
pub mod Progress
pub mod StepsAt
pub mod Waits

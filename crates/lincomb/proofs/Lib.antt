pub mod Totals
pub mod Merging
pub mod Stepping
pub mod Tallying
pub mod Writing
pub mod Sums
pub mod Example
pub mod Unique

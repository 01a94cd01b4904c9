pub mod Sums
pub mod Merging

pub mod Results
pub mod Tallies

pub mod Results
pub mod Delivering
pub mod Unique

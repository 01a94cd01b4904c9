pub mod Comparison
pub mod Finding

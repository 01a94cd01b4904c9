pub mod Scanning
pub mod Unique

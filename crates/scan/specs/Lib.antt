pub mod Sums
pub mod Scanned

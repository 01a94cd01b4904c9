pub mod Standing
pub mod Appending
pub mod Filling
pub mod Pairing
pub mod Counting
pub mod Unique

pub mod SignedNumbers
pub mod Unique

pub mod Finite
pub mod Exact
pub mod Checking
pub mod Summing
pub mod Answering
pub mod Theorems
pub mod Unique

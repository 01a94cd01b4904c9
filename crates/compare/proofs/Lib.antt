pub mod Ahead
pub mod Naming
pub mod Differing
pub mod Finding
pub mod Comparing
pub mod Theorems
pub mod Unique

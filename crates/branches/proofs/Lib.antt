pub mod Ceiling
pub mod Telling
pub mod Unique
pub mod Theorems

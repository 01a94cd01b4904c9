pub mod Ceiling
pub mod Branches

pub mod Ladders
pub mod Acting
pub mod Sizes
pub mod Steps
pub mod Fields
pub mod Writing
pub mod Unique

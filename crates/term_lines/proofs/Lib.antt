pub mod Lengths
pub mod Modes
pub mod Lines
pub mod Reading
pub mod Accepted
pub mod Meaning
pub mod Example
pub mod Unique

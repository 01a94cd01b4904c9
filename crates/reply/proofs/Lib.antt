pub mod Lines
pub mod Replies
pub mod Unique
pub mod Bounds
pub mod NoRecord
pub mod Theorems

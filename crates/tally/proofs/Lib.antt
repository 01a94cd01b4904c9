pub mod Seeing
pub mod Ends
pub mod Ranks
pub mod Tallying
pub mod Unique

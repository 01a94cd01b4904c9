pub mod Pieces
pub mod Joined
pub mod Spelled
pub mod Fine
pub mod Fields
pub mod Texts
pub mod Nothing
pub mod Unique

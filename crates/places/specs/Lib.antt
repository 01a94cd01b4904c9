pub mod Terms
pub mod Places
pub mod Apart
pub mod Kept
pub mod Order

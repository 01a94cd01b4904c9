pub mod Stores
pub mod Decimals
pub mod Written
pub mod Reading
pub mod Numbers
pub mod Unique

pub mod Totals
pub mod Normal
pub mod Sizes
pub mod Words
pub mod Unique

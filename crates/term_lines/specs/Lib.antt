pub mod Written
pub mod Ladders

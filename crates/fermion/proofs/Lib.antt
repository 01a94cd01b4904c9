pub mod InRows
pub mod Cases
pub mod Blocking
pub mod Telling
pub mod Unique

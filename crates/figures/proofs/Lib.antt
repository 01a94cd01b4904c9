pub mod Ranks
pub mod Surveys
pub mod Unique

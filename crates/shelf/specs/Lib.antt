pub mod Requests
pub mod Steps
pub mod Runs
pub mod Outcomes
pub mod Placing

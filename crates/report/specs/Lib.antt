pub mod Reports
pub mod Batches
pub mod Steps

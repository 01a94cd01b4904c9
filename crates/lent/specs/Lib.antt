pub mod Bytes
pub mod Rows
pub mod Outputs

pub mod Elements
pub mod Passing
pub mod Matrix

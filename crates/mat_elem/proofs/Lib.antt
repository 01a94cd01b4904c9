pub mod Summing
pub mod Answering
pub mod Bases
pub mod Filling
pub mod Projecting
pub mod MatrixTheorems
pub mod Fitting
pub mod Unique

pub mod Sums
pub mod Answers
pub mod Elements
pub mod Lengths
pub mod Single

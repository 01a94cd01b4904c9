pub mod Refusing
pub mod Answering
pub mod Elements
pub mod Theorems
pub mod Unique

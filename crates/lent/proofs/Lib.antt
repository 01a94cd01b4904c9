pub mod Numbers
pub mod Puts
pub mod NumbersAt
pub mod RowLaws
pub mod Outputs
pub mod Unique

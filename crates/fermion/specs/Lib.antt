pub mod Face
pub mod Cases

pub mod Choices
pub mod UpTo
pub mod InPlaces
pub mod Layouts
pub mod Keys
pub mod Unique

pub mod Grammar
pub mod Refusals
pub mod Spelling
pub mod Reading

pub mod TextReplies
pub mod Unique

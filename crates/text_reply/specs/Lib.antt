pub mod TextReplies

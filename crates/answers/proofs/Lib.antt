pub mod Replies
pub mod Spelling

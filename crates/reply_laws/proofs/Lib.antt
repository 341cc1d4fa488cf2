pub mod Answers
pub mod Replies

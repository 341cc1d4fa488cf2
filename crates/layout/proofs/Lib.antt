pub mod Capacity
pub mod Places
pub mod Answers

pub mod Counted
pub mod Limit
pub mod OnlyLog
pub mod Refused
pub mod Waiting

pub mod Checks
pub mod Reading
pub mod Bytes
pub mod Stores
pub mod Replaced
pub mod Laws
pub mod Pages
pub mod Refused

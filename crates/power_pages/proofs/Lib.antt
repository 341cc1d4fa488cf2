pub mod Real
pub mod Spared
pub mod Scan
pub mod Search

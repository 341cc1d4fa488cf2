pub mod Images
pub mod Steps
pub mod Turns
pub mod Drain
pub mod Write

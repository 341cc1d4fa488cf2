pub mod Lives
pub mod Theorem
pub mod Explained
pub mod Ghost
pub mod Scripts
pub mod Every
pub mod Boards
pub mod Spared

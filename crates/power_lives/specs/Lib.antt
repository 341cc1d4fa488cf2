pub mod Lives
pub mod Theorem
pub mod Explained
pub mod Scripts
pub mod Boards
pub mod Spared

pub mod Notation
pub mod Pushed
pub mod Padded

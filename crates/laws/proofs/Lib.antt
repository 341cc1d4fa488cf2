pub mod Rules
pub mod Chain
pub mod ReadBack
pub mod Bits
pub mod Halving
pub mod Choice

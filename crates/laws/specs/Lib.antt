pub mod Refusals
pub mod Answers
pub mod OneToOne
pub mod Bits
pub mod Halving

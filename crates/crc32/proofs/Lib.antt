pub mod Remainders
pub mod Linear
pub mod Table

pub mod Numbers
pub mod Same
pub mod Signed

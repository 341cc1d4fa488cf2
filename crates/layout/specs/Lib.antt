pub mod Layout
pub mod Laws

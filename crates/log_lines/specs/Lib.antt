pub mod Lines
pub mod Laws

pub mod Store
pub mod Laws

pub mod Script
pub mod Laws
pub mod Said

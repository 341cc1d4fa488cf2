pub mod Decimal
pub mod Laws
pub mod Held

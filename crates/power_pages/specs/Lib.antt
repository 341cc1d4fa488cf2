pub mod Store
pub mod Spared

pub mod Rig
pub mod Laws

pub mod Crc
pub mod Table

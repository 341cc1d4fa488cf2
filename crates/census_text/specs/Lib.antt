pub mod Text
pub mod Census
pub mod Laws
pub mod Tables

pub mod Laws
pub mod Ways
pub mod Telling
pub mod Playing
pub mod Offers

pub mod Maps
pub mod Places
pub mod Fronts

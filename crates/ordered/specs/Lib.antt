pub mod Faults
pub mod Lists
pub mod Maps
pub mod Laws
pub mod Places
pub mod Tables

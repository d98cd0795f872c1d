pub mod Fields
pub mod Lines
pub mod Pressures
pub mod Tyres
pub mod Readings
pub mod Inputs

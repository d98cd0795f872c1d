pub mod Deltas
pub mod Stores
pub mod Fetches
pub mod Readings
pub mod Packers
pub mod Refills
pub mod Contents
pub mod Tables

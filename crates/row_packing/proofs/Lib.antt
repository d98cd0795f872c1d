pub mod Counts
pub mod Stores
pub mod Fetches
pub mod Notes
pub mod Packers
pub mod Refills
pub mod Tables

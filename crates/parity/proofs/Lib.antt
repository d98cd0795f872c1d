pub mod Zips
pub mod Xors
mod Columns

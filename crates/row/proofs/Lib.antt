pub mod Changes
pub mod Sides

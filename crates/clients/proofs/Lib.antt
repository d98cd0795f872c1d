pub mod Changes
pub mod Newer

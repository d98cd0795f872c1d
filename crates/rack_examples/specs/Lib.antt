pub mod Runs
pub mod Examples

pub mod Tables
pub mod Taking
pub mod Pointing
pub mod Live

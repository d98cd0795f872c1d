pub mod Sizes
pub mod Bytes
pub mod Keys
pub mod Rows
pub mod Placement

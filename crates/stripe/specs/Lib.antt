pub mod Contents
pub mod Rows
pub mod Buffers
pub mod Means
pub mod Examples

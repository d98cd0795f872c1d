pub mod Means
pub mod Turns
pub mod Filling
pub mod Newest

pub mod Arrays
pub mod Chunks
pub mod Filling
pub mod Rounds

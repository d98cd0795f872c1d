pub mod Shelves
pub mod Sound

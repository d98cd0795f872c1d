pub mod Parts
pub mod Words
pub mod Slots
pub mod Heads
pub mod Fragments
pub mod Laws

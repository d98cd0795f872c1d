pub mod Numbers
pub mod Pairs
pub mod Slots
pub mod Heads
pub mod Fragments
pub mod Laws

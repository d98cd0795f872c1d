pub mod Sizes
pub mod Slots
pub mod Overlay
pub mod Layer

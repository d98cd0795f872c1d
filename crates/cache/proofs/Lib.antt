pub mod Cached
pub mod Overlays
pub mod Agreement
pub mod Calls

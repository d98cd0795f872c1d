pub mod Digits
pub mod Labels
pub mod Lines
pub mod Lows
pub mod Notes

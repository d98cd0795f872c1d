pub mod Noted
pub mod Newer
pub mod Picks

pub mod Means
pub mod Newest
pub mod Picks

pub mod Entries
pub mod Counting
pub mod Walks
pub mod Marks
pub mod Deltas

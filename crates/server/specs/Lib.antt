pub mod Meaning
pub mod Stored
pub mod Laws
pub mod Calls

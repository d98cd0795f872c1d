pub mod Records
pub mod Area
pub mod Sound
pub mod Walks
pub mod Calls
pub mod Servers
pub mod Laws
pub mod Examples

pub mod Servers
pub mod Lacking
pub mod Fetches
pub mod Walks
pub mod Stripes

pub mod Servers
pub mod Fragments
pub mod KeysHeld
pub mod Lacking

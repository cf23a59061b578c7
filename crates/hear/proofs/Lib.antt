pub mod Hears
pub mod Joining
pub mod Packets
pub mod Places

pub mod Joining
pub mod Sounds
pub mod Stepping
pub mod Tells

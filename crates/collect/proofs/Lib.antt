pub mod Equal
pub mod Joined
pub mod Kept
pub mod Only
pub mod Rooms
pub mod Sounds
pub mod Turns

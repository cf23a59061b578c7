pub mod Commands
pub mod Follows
pub mod Keeps
pub mod Lines
pub mod Moves
pub mod Ranges
pub mod Reached
pub mod Sounds

pub mod Line
pub mod Moves
pub mod Sound
pub mod Step

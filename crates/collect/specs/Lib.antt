pub mod Slots
pub mod Sound

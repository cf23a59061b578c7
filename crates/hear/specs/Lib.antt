pub mod Frame
pub mod Hear
pub mod Join

pub mod Join
pub mod Receive
pub mod Reset
pub mod Sound
pub mod Step
pub mod Tell

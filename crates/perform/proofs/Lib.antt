pub mod Answered
pub mod Lasts
pub mod Same

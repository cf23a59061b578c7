pub mod Frame
pub mod Guard
pub mod ReadBack
pub mod Refusals
pub mod Unique

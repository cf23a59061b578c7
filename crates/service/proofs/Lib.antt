pub mod Copies
pub mod Deliveries
pub mod Driver
pub mod Joins
pub mod Keeps
pub mod Only
pub mod Punctual
pub mod Quiets

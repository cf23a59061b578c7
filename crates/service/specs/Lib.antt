pub mod Delivery
pub mod Driver
pub mod Good
pub mod Punctual

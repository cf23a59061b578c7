pub mod Backs
pub mod Copies

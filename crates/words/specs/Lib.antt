pub mod Says
pub mod Told
pub mod Words

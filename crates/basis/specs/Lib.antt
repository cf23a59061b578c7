pub mod Bytes
pub mod Choice
pub mod Rows
pub mod Told

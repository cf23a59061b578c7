pub mod Rows
pub mod Parameters
pub mod Laws
pub mod Ranges

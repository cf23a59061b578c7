pub mod Price
pub mod Steps
pub mod Tree

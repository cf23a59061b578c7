pub mod Edges
pub mod Nexts
pub mod Same
pub mod Columns

pub mod Bytes
pub mod Kinds
pub mod Text
pub mod Pieces
pub mod KindTable
pub mod Before
pub mod Number

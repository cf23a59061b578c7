pub mod Moves
pub mod Tokens
pub mod Values

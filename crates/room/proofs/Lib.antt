mod Blanks
pub mod Unused

pub mod Entries
pub mod Same
pub mod Places
pub mod Texts
pub mod Pieces
pub mod Numbers
pub mod Faults

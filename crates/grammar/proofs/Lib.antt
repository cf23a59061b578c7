pub mod Grammars
pub mod Refusals
pub mod Fronts
pub mod Standings

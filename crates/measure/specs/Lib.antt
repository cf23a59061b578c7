pub mod Before
pub mod Capped
pub mod Edge
pub mod Width

pub mod Before
pub mod Price
pub mod Settings

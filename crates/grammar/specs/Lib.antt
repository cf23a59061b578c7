pub mod Grammar
pub mod Reach

pub mod Mid
pub mod Wire
pub mod Write

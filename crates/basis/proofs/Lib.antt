pub mod Bytes
pub mod Choices
pub mod Laid
pub mod Rows
pub mod Sums
pub mod Tests
pub mod Lists

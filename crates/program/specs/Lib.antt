pub mod Table
pub mod Command
pub mod Answers

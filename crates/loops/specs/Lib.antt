pub mod Token
pub mod Structure
pub mod Flow

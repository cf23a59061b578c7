pub mod Verdict
pub mod Standing

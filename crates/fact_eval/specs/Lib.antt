pub mod Answers
pub mod Shared

pub mod Lines
pub mod Below
pub mod Answers

pub mod Rightness
pub mod Evaluations
pub mod Nearness
pub mod Sharing

pub mod Counts
pub mod Years

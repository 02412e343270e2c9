pub mod Turns
pub mod Measured
pub mod Passed

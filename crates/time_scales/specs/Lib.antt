pub mod Steps
pub mod Horner
pub mod Corrections
pub mod Widths

pub mod Angles
pub mod Months
pub mod Widths

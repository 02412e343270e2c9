pub mod Turning
pub mod Angles
pub mod MeanAngles
pub mod Multiples
pub mod Tables
pub mod Widths

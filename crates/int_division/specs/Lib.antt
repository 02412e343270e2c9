pub mod Rounding
pub mod Units
pub mod Counts

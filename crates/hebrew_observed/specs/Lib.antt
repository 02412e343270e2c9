pub mod Dates
pub mod Months
pub mod Years

pub mod Dates
pub mod Months

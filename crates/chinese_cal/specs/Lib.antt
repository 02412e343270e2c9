pub mod Dates
pub mod Days
pub mod Keeping
pub mod Walks

pub mod Crossings
pub mod Computed
pub mod Moments
pub mod Widths
pub mod SteadyIntervals
pub mod Answers

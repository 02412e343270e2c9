pub mod Counts
pub mod Nisan
pub mod Seasons
pub mod Spans
pub mod WholeDays
pub mod Widths

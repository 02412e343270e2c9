pub mod YearDays

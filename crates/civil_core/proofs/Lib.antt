pub mod JiffCalendar
pub mod Months
pub mod Conversions
pub mod Days
pub mod FourHundred

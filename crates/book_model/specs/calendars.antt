-- The rules of the calendars, as inquiries.
pub mod Versions
pub mod Gregorian
pub mod Inquiries
pub mod Spans
pub mod Persian
pub mod Bahai
pub mod Chinese
pub mod Islamic
pub mod HinduSolar
pub mod HinduLunar
pub mod French
pub mod HebrewObserved
pub mod Moving
pub mod Dates

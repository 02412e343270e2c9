-- Formulas as programs of tests, their runs, and what a call tells of one.
pub mod Programs
pub mod Searches
pub mod Bisection
pub mod Crossings
pub mod Leading
pub mod Nesting
pub mod Calls
pub mod Widths

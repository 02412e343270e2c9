pub mod Verdicts
pub mod Listed
pub mod Text

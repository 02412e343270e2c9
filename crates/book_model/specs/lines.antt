-- Lines: what they ask, their outcomes, and their text.
pub mod Lines
pub mod Words
pub mod Reach
pub mod Requests
pub mod LineRules
pub mod Outcomes
pub mod Text

pub mod Pieces
pub mod Outcomes
pub mod Shown
pub mod Near
pub mod LineFacts

pub mod Rooms
pub mod Handing
pub mod Evaluators

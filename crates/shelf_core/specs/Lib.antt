pub mod Rows
pub mod Slots
pub mod Passes
pub mod Shelves

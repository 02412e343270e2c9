pub mod FarCells
pub mod Rows

pub mod Rows
pub mod Echoes
pub mod Writing
pub mod Answering
pub mod Printing
pub mod Counting
pub mod Renewing
pub mod Hashing

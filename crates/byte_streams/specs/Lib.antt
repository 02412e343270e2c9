pub mod Stream
pub mod Calls
pub mod Parts

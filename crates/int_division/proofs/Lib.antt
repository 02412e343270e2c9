pub mod Quotients
pub mod Stepping
pub mod HighHalves
pub mod Remainders

pub mod FactLemmas
pub mod Noting
pub mod Keeping
pub mod Listing
pub mod Inquiring
pub mod Tables
pub mod Findings

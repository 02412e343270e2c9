pub mod Room
pub mod Close

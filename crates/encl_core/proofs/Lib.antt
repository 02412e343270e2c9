-- of interval_endpoints, re-exported
pub use Rattle.interval_endpoints.proofs.HighHalves
pub use Rattle.interval_endpoints.proofs.Quotients
pub use Rattle.interval_endpoints.proofs.Stepping
pub use Rattle.interval_endpoints.proofs.Scaling
pub use Rattle.interval_endpoints.proofs.Testing
pub mod Measuring
pub mod Closing
pub mod Covering
pub mod TermCovers
pub mod Parted
pub mod Between
pub mod Keeping
pub mod PiEndpoints
pub mod Searching
pub mod TermSums
pub mod StepWidths

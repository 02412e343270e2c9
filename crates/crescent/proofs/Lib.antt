-- of rise_set, re-exported
pub use Rattle.rise_set.proofs.Horizons
pub use Rattle.rise_set.proofs.Places
pub use Rattle.rise_set.proofs.SkyDays
pub mod Crescents
pub mod Measured
pub mod Evenings
pub mod Thresholds
pub mod Days
pub mod KnownEvenings

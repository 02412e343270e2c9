-- of sun_core, re-exported
pub use Rattle.sun_core.proofs.NewYears
pub mod Settling
pub mod Beside
pub mod Horizons
pub mod MeanMoments
pub mod Measured
pub mod Altitudes
pub mod Places
pub mod Tilts
pub mod Sunrises
pub mod SkyDays

-- of sun_core, re-exported
pub use Rattle.sun_core.specs.Daily as SunDaily
pub use Rattle.sun_core.specs.Longitudes
pub mod Angles
pub mod LinearModels
pub mod Daily
pub mod Elements
pub mod Widths
pub mod PhaseDays
pub mod PickedLongitudes
pub mod HigherTerms
pub mod Replays
pub mod MoonPlaces

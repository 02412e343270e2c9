-- of sun_core, re-exported
pub use Rattle.sun_core.specs.Widths as SunWidths
pub mod Moved
pub mod Horizons
pub mod Widths
pub mod Altitudes
pub mod Directions

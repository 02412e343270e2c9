pub mod Powers
pub mod Years
pub mod WholePowers
pub mod HornerLemmas
pub mod CorrectionRows
mod CoarserBounds
pub mod CorrectionWidths
pub mod WholeDays
pub mod Moments
pub mod CorrectionValues
pub mod KeptCorrections
pub mod TableWidths
pub mod HornerWidths
pub mod Measured
pub mod ZoneWidths

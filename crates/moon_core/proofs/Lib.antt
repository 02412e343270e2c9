-- of sun_core, re-exported
pub use Rattle.sun_core.proofs.EarlyTests
pub use Rattle.sun_core.proofs.Measured as SunMeasured
pub use Rattle.sun_core.proofs.Nested
pub use Rattle.sun_core.proofs.NewYears
pub use Rattle.sun_core.proofs.OnLinearModel as SunOnLinearModel
pub use Rattle.sun_core.proofs.UndecidedTests as SunUndecidedTests
pub use Rattle.sun_core.proofs.Scalings
pub mod OnLinearModel
pub mod WalkSteps
pub mod TermWidths
pub mod MomentElements
pub mod UndecidedTests
pub mod FirstMoon
pub mod PhaseRanges
pub mod Bisections
pub mod PhaseDays
pub mod Measured
pub mod QuarterWidths
pub mod HigherTerms
pub mod Replays
pub mod MoonPlaces
pub mod Picked

-- of angle_search, re-exported
pub use Rattle.angle_search.proofs.Measured as SearchMeasured
pub use Rattle.angle_search.proofs.Passed
pub mod OnLinearModel
pub mod Scalings
pub mod UndecidedTests
pub mod Elapsed
pub mod SunTerms
pub mod NewYears
pub mod Measured
pub mod PassageWidths
pub mod StarWidths
pub mod Nested
pub mod Again
pub mod EarlyTests
pub mod Worlds

-- of interval_endpoints, re-exported
pub use Rattle.interval_endpoints.specs.Units
pub use Rattle.interval_endpoints.specs.declared.parts
pub mod Sizes
pub mod GreatestWidths
pub mod Kept
pub mod Shown
pub mod Steps

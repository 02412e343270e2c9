-- of int_division, re-exported
pub use Rattle.int_division.specs.Rounding as WholeRounding
pub use Rattle.int_division.specs.Units
pub mod Scales
pub mod Rounding
pub mod Shown

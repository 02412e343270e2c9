-- the fractions, intervals and quotients of exact_math, re-exported
pub use Rattle.exact_math.specs.Fraction
pub use Rattle.exact_math.specs.Quotients
pub use Rattle.exact_math.specs.Interval
pub use Rattle.exact_math.specs.Smallest
pub use Rattle.exact_math.specs.Sums
pub mod numbers
pub mod programs
pub mod sky
pub mod calendars
pub mod lines

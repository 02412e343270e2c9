-- Whole numbers of days and of spans, as years and months are, exact: what the rules of dates count with. Nothing here
-- is a test.
use Rattle.std.specs.Prelude.{ℕ, ◌-◌, ℤ}
use Rattle.exact_math.specs.Fraction.{Fraction, whole, plus, times, reciprocal, floor}
pub use Rattle.exact_math.specs.Quotients.{quotient_down, quotient_up, modulo, amod}
use Rattle.book_model.specs.declared.calendar_tables.TheConstants.{SYNODIC_MONTH, TROPICAL_YEAR}
use Rattle.book_model.specs.declared.tables.TheConstants.{HALF}
use Rattle.book_model.specs.numbers.Fractions.{fraction_of}

-- the whole number that is nearest to a fraction, the greater of two
unfoldable pub nearest : Fraction → ℤ
nearest a = floor (plus a (fraction_of HALF))

-- n / d; a divisor of 0 is read as 1
abbrev pub ratio : ℤ → ℕ → Fraction
ratio n d = record { num = n; below = d - 1 }

-- the whole days of a count of spans, rounded down
unfoldable pub days_of : Fraction → Fraction → ℤ
days_of span count = floor (times span count)

-- how many spans so many days are, and a fraction more, rounded down
unfoldable pub spans_of : Fraction → ℤ → Fraction → ℤ
spans_of span days more = floor (plus (times (whole days) (reciprocal span)) more)

-- the whole days of so many tropical years
unfoldable pub days_of_years : ℤ → ℤ
days_of_years years = days_of (fraction_of TROPICAL_YEAR) (whole years)

-- the number of synodic months that is nearest to so many days
unfoldable pub months_of_days : ℤ → ℤ
months_of_days days = nearest (times (whole days) (reciprocal (fraction_of SYNODIC_MONTH)))

-- the number of tropical years that is nearest to so many days
unfoldable pub years_of_days : ℤ → ℤ
years_of_days days = nearest (times (whole days) (reciprocal (fraction_of TROPICAL_YEAR)))

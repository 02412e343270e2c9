-- From where to where an interval lies.
use Rattle.std.specs.Prelude.{ℕ, ℤ, pos, ◌+ℤ◌, ◌-ℤ◌}
use Rattle.exact_math.specs.Fraction.{◌≤F◌, whole}
use Rattle.exact_math.specs.Interval.{Interval, everything, between}
use Rattle.book_model.specs.declared.time_tables.TheConstants.{TABLE_START, TABLE_END}

-- an interval lies between two whole numbers, or nothing is said of it
abbrev pub IsBetween : (lo hi : ℤ) → Interval → Type 0
IsBetween lo hi everything = Unit {0}
IsBetween lo hi (between a b) = (whole lo ≤F a) × (b ≤F whole hi)

-- a moment lies in the years of which ΔT is known, or nothing is said of it
abbrev pub IsInTable : Interval → Type 0
IsInTable i = IsBetween TABLE_START TABLE_END i

-- a moment lies there, or at most so many days from there; or nothing is said of it
abbrev pub IsNearTable : (margin : ℕ) → Interval → Type 0
IsNearTable margin i = IsBetween (TABLE_START -ℤ pos margin) (TABLE_END +ℤ pos margin) i

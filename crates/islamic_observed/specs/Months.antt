-- From where to where the numbers lie that the rules go by.
use Rattle.std.specs.Prelude.{ℤ, pos, negsuc, ◌≤ℤ◌}

-- the months before one that a value of a fact begins
abbrev pub IsNearMonth : ℤ → Type 0
IsNearMonth passed = (negsuc 399999 ≤ℤ passed) × (passed ≤ℤ pos 400000)

-- a year of four digits, and a month of a year
abbrev pub IsMonth : ℤ → ℤ → Type 0
IsMonth year month = (negsuc 9998 ≤ℤ year) × (year ≤ℤ pos 9999) × (pos 1 ≤ℤ month) × (month ≤ℤ pos 12)

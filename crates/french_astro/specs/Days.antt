-- From where to where the numbers lie that the rules go by.
use Rattle.std.specs.Prelude.{ℤ, pos, negsuc, ◌≤ℤ◌}

-- a year that a value of a fact begins
abbrev pub IsNearYear : ℤ → Type 0
IsNearYear year = (negsuc 29999 ≤ℤ year) × (year ≤ℤ pos 30000)

-- a day by a value of a fact, or its number in a year
abbrev pub IsDayNumber : ℤ → Type 0
IsDayNumber day = (negsuc 19999999 ≤ℤ day) × (day ≤ℤ pos 20000000)

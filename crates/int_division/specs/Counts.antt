-- From where to where counts lie.
use Rattle.std.specs.Prelude.{ℤ, pos, negsuc, ◌≤ℤ◌}

-- a count of days, months or years that is divided
abbrev pub IsCount : ℤ → Type 0
IsCount count = (negsuc 49999999 ≤ℤ count) × (count ≤ℤ pos 50000000)

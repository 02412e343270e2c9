-- Numbers of 64 bits in units of 2^-64, and what is near them.
use Rattle.std.specs.Prelude.{ℕ, ℤ, pos, ◌-◌, ◌^◌, ◌-ℤ◌, ◌+ℤ◌}
use Rattle.exact_math.specs.Fraction.{Fraction, ◌≤F◌}

-- a number in units of 2^-64
abbrev pub at_64 : ℤ → Fraction
at_64 n = record { num = n; below = 2 ^ 64 - 1 }

-- x lies within e of t
pub record IsWithinUnits (e t : ℕ) (x : Fraction) : Type 0 where
  pub above : at_64 (pos t -ℤ pos e) ≤F x
  pub below : x ≤F at_64 (pos t +ℤ pos e)

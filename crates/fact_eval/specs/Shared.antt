-- What runs share, as words of 64 bits: what was asked, as the coarse scale gives it. A word has the number of what
-- was asked, above -2^15, in its lowest 16 bits; then a bit, which is 0 where that is a new moon and 1 where it is ΔT
-- of a year; the width in the next 7; and in the others how far the lower endpoint is above 2^39 units below where it
-- is expected. Widths and distances are in units of 2^-36.
use Rattle.std.specs.Prelude.{◌≡◌, ℕ, ◌/◌, ◌%◌, ◌^◌, ℤ, pos, ◌+ℤ◌, ◌-ℤ◌, ◌*ℤ◌, ◌⊎◌, Bool, true, false, ◌==◌}
use Rattle.encl_core.specs.Kept.{IsKept, program_of, tests_of}
use Rattle.encl_core.specs.declared.asked.Asked.{Asked}
use Rattle.encl_core.specs.declared.asked.Asked.TheVariants.{NewMoon, Correction}
use Rattle.encl_core.specs.declared.span.Span.{Span}
use Rattle.fact_eval.specs.declared.shared.TheConstants.{FIRST_MOON_36, MONTH_36}

-- the number of what a word is of
abbrev pub number_of : ℕ → ℤ
number_of w = pos (w % 2 ^ 16) -ℤ pos (2 ^ 15)

-- whether it is of a new moon
abbrev pub is_moon : ℕ → Bool
is_moon w = w / 2 ^ 16 % 2 == 0

-- the new moon of a number, or ΔT of a year
abbrev pub asked_by : Bool → ℤ → Asked
asked_by true n = NewMoon n
asked_by false n = Correction n

-- what a word is of
abbrev pub asked_of : ℕ → Asked
asked_of w = asked_by (is_moon w) (number_of w)

-- where the endpoints are expected, in 2^-36 days: new moons by the mean month, ΔT near 0
abbrev pub expected_of : Asked → ℤ
expected_of (NewMoon n) = n *ℤ MONTH_36 +ℤ FIRST_MOON_36
expected_of (Correction y) = pos 0

-- a word's lower endpoint and its width, in 2^-36
abbrev pub lower_of : ℕ → ℤ
lower_of w = expected_of (asked_of w) +ℤ (pos (w / 2 ^ 24) -ℤ pos (2 ^ 39))

abbrev pub width_of : ℕ → ℤ
width_of w = pos (w / 2 ^ 17 % 2 ^ 7)

-- its endpoints, in 2^-56
abbrev pub low_of : ℕ → ℤ
low_of w = lower_of w *ℤ pos (2 ^ 20)

abbrev pub high_of : ℕ → ℤ
high_of w = (lower_of w +ℤ width_of w) *ℤ pos (2 ^ 20)

-- what was asked is right within these endpoints, at the coarse scale
pub record IsRightWithin (asked : Asked) (lo hi : ℤ) : Type 0 where
  pub span : Span
  pub low : span.lo ≡ lo
  pub high : span.hi ≡ hi
  pub evaluated : IsKept (tests_of asked) (program_of asked) span

-- a word is 0, or its endpoints are right for what it is of
unfoldable pub IsSharedWord : ℕ → Type 0
IsSharedWord w = (w ≡ 0) ⊎ IsRightWithin (asked_of w) (low_of w) (high_of w)

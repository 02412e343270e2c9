-- Numbers at a fixed decimal scale, in which ΔT is computed exactly.
use Rattle.std.specs.Prelude.{ℕ, zero, suc, ◌*◌, ◌^◌, ◌-◌, ℤ, pos, List, slice_index_or}
use Rattle.exact_math.specs.Fraction.{Fraction, ◌≈◌, whole, plus, times}
use Rattle.exact_math.specs.Interval.{Interval, everything, between}
use Rattle.book_model.specs.declared.frac.Frac.{Frac}
use Rattle.book_model.specs.sky.Correction.{int_power, no_fraction}
use Rattle.book_model.specs.numbers.Expressions.{Expression}
use Rattle.book_model.specs.numbers.Fractions.{fraction_of}
use Rattle.book_model.specs.programs.Programs.{Program, answer, void, cell, compare}

-- n / 10^11
abbrev pub decimal_11 : ℤ → Fraction
decimal_11 n = record { num = n; below = 10 ^ 11 - 1 }

-- n / 10^11 seconds, in days
abbrev pub seconds_11 : ℤ → Fraction
seconds_11 n = record { num = n; below = 86400 * 10 ^ 11 - 1 }

-- the sum of the first n terms of a polynomial, as one fraction
unfoldable pub exact_to : List Frac → ℤ → ℕ → Fraction
exact_to cs x zero = whole (pos 0)
exact_to cs x (suc n) = plus (exact_to cs x n)
    (times (whole (int_power x n)) (fraction_of (slice_index_or cs n no_fraction)))

-- an interval is one number
abbrev pub IsNumber : Fraction → Interval → Type 0
IsNumber f everything = ⊥
IsNumber f (between a b) = (a ≈ f) × (b ≈ f)

-- a program is an answer without a test, of which this holds
abbrev pub IsAnswerAnd : Program Expression → (Expression → Type 0) → Type 0
IsAnswerAnd (answer c) P = P c
IsAnswerAnd (void s) P = ⊥
IsAnswerAnd (cell s g x next) P = ⊥
IsAnswerAnd (compare s x y next) P = ⊥

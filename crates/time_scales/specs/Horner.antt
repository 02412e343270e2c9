-- A polynomial at an exact fraction, from the inside out.
use Rattle.std.specs.Prelude.{ℕ, zero, suc, ◌+◌, ◌-◌, ◌*◌, ◌^◌, pos, Bool, true, ◌&&◌, nat_lt, unsigned_abs, List}
use Rattle.std.specs.Prelude.{length, slice_index_or}
use Rattle.book_model.specs.Fraction.{Fraction}
use Rattle.book_model.specs.declared.frac.Frac.{Frac}
use Rattle.book_model.specs.numbers.Bounds.{range_size, floor_at_32, ceil_at_32}
use Rattle.book_model.specs.sky.Correction.{no_fraction}
use Rattle.book_model.specs.numbers.Fractions.{fraction_of}
use Rattle.book_model.specs.numbers.Expressions.{Expression, integer, constant, add, scale}

-- the last k coefficients in Horner's form
unfoldable pub horner_to : List Frac → Fraction → ℕ → Expression
horner_to cs c zero = integer (pos 0)
horner_to cs c (suc k) = add (scale c (horner_to cs c k))
    (constant (fraction_of (slice_index_or cs (length cs - suc k) no_fraction)))

-- all coefficients in Horner's form
unfoldable pub horner_of : List Frac → Fraction → Expression
horner_of cs c = horner_to cs c (length cs)

-- the coefficient that the k-th step of Horner's form adds
abbrev pub coefficient_at : List Frac → ℕ → Fraction
coefficient_at cs k = fraction_of (slice_index_or cs (length cs - suc k) no_fraction)

-- how large the last k coefficients nested are at a fraction of at most the size F, in 2^-32
unfoldable pub horner_size : List Frac → (F : ℕ) → ℕ → ℕ
horner_size cs F zero = 0
horner_size cs F (suc k) = horner_size cs F k * F + range_size (floor_at_32 (coefficient_at cs k))
    (ceil_at_32 (coefficient_at cs k))

-- and how wide at the scale 2^-56, in 2^-64: each step makes it F times as wide, and three units
unfoldable pub horner_width : (F : ℕ) → ℕ → ℕ
horner_width F zero = 0
horner_width F (suc k) = horner_width F k * F + 3 * 2 ^ 8

-- whether the scale 2^-56 bears them
unfoldable pub horner_fits : List Frac → (F : ℕ) → ℕ → Bool
horner_fits cs F zero = true
horner_fits cs F (suc k) = horner_fits cs F k && (nat_lt (horner_size cs F k) (2 ^ 62) &&
    (nat_lt (horner_size cs F (suc k)) (2 ^ 100) && nat_lt (unsigned_abs (coefficient_at cs k).num) (2 ^ 70)))

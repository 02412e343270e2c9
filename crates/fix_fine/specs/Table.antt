-- The widths of fine enclosures, one row for each operation. Endpoints, sizes and widths are in units of 2^-56.
use Rattle.std.specs.Prelude.{◌≡◌, ℕ, pos, max, unsigned_abs, ◌+◌, ◌*◌, ◌^◌, ◌<◌, ℤ, ◌+ℤ◌, ◌-ℤ◌, ◌*ℤ◌, ◌≤ℤ◌, ◌<ℤ◌, ◌⊎◌}
use Rattle.std.specs.Int.{int_min, int_max}
use Rattle.book_model.specs.Fraction.{Fraction}
use Rattle.book_model.specs.Interval.{Interval, everything, between}

-- something is known of a number: not that it is any number
abbrev pub IsKnown : Interval → Type 0
IsKnown everything = ⊥
IsKnown (between a b) = Unit {0}

-- the endpoints
abbrev pub low_of : Interval → ℤ
low_of everything = pos 0
low_of (between a b) = a.num

abbrev pub high_of : Interval → ℤ
high_of everything = pos 0
high_of (between a b) = b.num

-- how far they are apart
abbrev pub width_of : Interval → ℤ
width_of i = high_of i -ℤ low_of i

-- the greatest size of the endpoints
abbrev pub size_of : Interval → ℕ
size_of i = max (unsigned_abs (low_of i)) (unsigned_abs (high_of i))

-- a whole number: no width
pub record IsIntegerRow (r : Interval) : Type 0 where
  pub known : IsKnown r
  pub wide : width_of r ≡ pos 0

-- a fraction whose size is below 2^50, and its numerator's below 2^70: one unit
pub record IsFractionRow (f : Fraction) (r : Interval) : Type 0 where
  pub known : unsigned_abs f.num < 2 ^ 50 * (f.below + 1) → unsigned_abs f.num < 2 ^ 70 → IsKnown r
  pub wide : IsKnown r → width_of r ≤ℤ pos 1

-- sums and differences of numbers below 2^68: both widths
pub record IsSumRow (x y r : Interval) : Type 0 where
  pub known : IsKnown x → IsKnown y → size_of x < 2 ^ 124 → size_of y < 2 ^ 124 → IsKnown r
  pub wide : IsKnown x → IsKnown y → IsKnown r → width_of r ≤ℤ (width_of x +ℤ width_of y)

-- the opposite of numbers below 2^68, and the remainder: the width
pub record IsMovedRow (x r : Interval) : Type 0 where
  pub known : IsKnown x → size_of x < 2 ^ 124 → IsKnown r
  pub wide : IsKnown x → IsKnown r → width_of r ≤ℤ width_of x

-- what is cut to -1..1: the width
pub record IsCutRow (x r : Interval) : Type 0 where
  pub known : IsKnown r
  pub wide : IsKnown x → width_of r ≤ℤ width_of x

-- the lesser and the greater: the greater width
pub record IsChoiceRow (x y r : Interval) : Type 0 where
  pub known : IsKnown x → IsKnown y → IsKnown r
  pub wide : IsKnown x → IsKnown y → width_of r ≤ℤ int_max (width_of x) (width_of y)

-- the hull: from the least lower to the greatest upper endpoint
pub record IsHullRow (x y r : Interval) : Type 0 where
  pub known : IsKnown x → IsKnown y → IsKnown r
  pub low : IsKnown x → IsKnown y → low_of r ≡ int_min (low_of x) (low_of y)
  pub high : IsKnown x → IsKnown y → high_of r ≡ int_max (high_of x) (high_of y)

-- products of sizes whose product is below 2^14: each width times the other's size, and two units
pub record IsProductRow (x y r : Interval) : Type 0 where
  pub known : IsKnown x → IsKnown y → size_of x * size_of y < 2 ^ 126 → IsKnown r
  pub wide : IsKnown x → IsKnown y → IsKnown r
      → ((width_of r -ℤ pos 2) *ℤ pos (2 ^ 56)) ≤ℤ (pos (size_of y) *ℤ width_of x +ℤ pos (size_of x) *ℤ width_of y)

-- products with a fraction whose numerator times the size is below 2^70: the width times the fraction's size, and two
-- units
pub record IsFactorRow (f : Fraction) (x r : Interval) : Type 0 where
  pub known : IsKnown x → unsigned_abs f.num * size_of x < 2 ^ 126 → IsKnown r
  pub wide : IsKnown x → IsKnown r → ((width_of r -ℤ pos 2) *ℤ pos (f.below + 1))
      ≤ℤ (width_of x *ℤ pos (unsigned_abs f.num))

-- squares of sizes below 2^7: twice the width times the size, and two units
pub record IsSquareRow (x r : Interval) : Type 0 where
  pub known : IsKnown x → size_of x < 2 ^ 63 → IsKnown r
  pub wide : IsKnown x → IsKnown r
      → ((width_of r -ℤ pos 2) *ℤ pos (2 ^ 56)) ≤ℤ (pos 2 *ℤ (pos (size_of x) *ℤ width_of x))

-- m is at most the size of each number between the endpoints, which are both above 0, or both below
abbrev pub IsLeastSize : ℤ → Interval → Type 0
IsLeastSize m i = (m ≤ℤ low_of i) ⊎ (high_of i ≤ℤ (pos 0 -ℤ m))

-- quotients by a divisor whose least size is m, above 0, and whose sizes are below 2^14, where the quotient of sizes is
-- below 2^50: the width over m, and the size times the divisor's width over m squared, and two units
pub record IsQuotientRow (x y r : Interval) : Type 0 where
  pub known : IsKnown x → IsKnown y → (m : ℕ) → 0 < m → IsLeastSize (pos m) y → size_of y < 2 ^ 70
      → size_of x < 2 ^ 50 * m → IsKnown r
  pub wide : IsKnown x → IsKnown y → IsKnown r → (m : ℕ) → 0 < m → IsLeastSize (pos m) y
      → ((width_of r -ℤ pos 2) *ℤ (pos m *ℤ pos m)) ≤ℤ (pos (2 ^ 56) *ℤ (width_of x *ℤ pos m) +ℤ pos
      (2 ^ 56) *ℤ (pos (size_of x) *ℤ width_of y))

-- roots of numbers below 2^14 in size: where the lower endpoint is above 0, the width over twice its root, and two
-- units. Both sides are squared, of what the width is above two units.
pub record IsRootRow (x r : Interval) : Type 0 where
  pub known : IsKnown x → size_of x < 2 ^ 70 → IsKnown r
  pub wide : IsKnown x → IsKnown r → pos 0 <ℤ low_of x → (e : ℕ) → width_of r ≡ pos 2 +ℤ pos e
      → (pos 4 *ℤ ((pos e *ℤ pos e) *ℤ low_of x))
      ≤ℤ ((width_of x *ℤ width_of x) *ℤ pos (2 ^ 56))

-- what is moved outwards, where the sizes are below 2^50 and the numerator's below 2^70: the width, twice the
-- fraction's size, and two units
pub record IsWidenedRow (f : Fraction) (x r : Interval) : Type 0 where
  pub known : IsKnown x → size_of x < 2 ^ 106 → unsigned_abs f.num < 2 ^ 50 * (f.below + 1)
      → unsigned_abs f.num < 2 ^ 70 → IsKnown r
  pub wide : IsKnown x → IsKnown r → (((width_of r -ℤ width_of x) -ℤ pos 2) *ℤ pos (f.below + 1))
      ≤ℤ (pos (2 * unsigned_abs f.num) *ℤ pos (2 ^ 56))

-- Exact fractions: an unbounded whole number over a positive one, ordered by cross products.
use Rattle.std.specs.Prelude.{◌≡◌, ℕ, zero, suc, ◌+◌, ◌*◌, ◌/◌, Bool, true, not, cond, unsigned_abs, ℤ, pos, negsuc}
use Rattle.std.specs.Prelude.{◌+ℤ◌, ◌*ℤ◌, ◌≤ℤ◌, ◌<ℤ◌}
use lib.IntN.{neg_ℤ}
use lib.Signed.{le_z}

-- num over below + 1
pub record Fraction : Type 0 where
  pub num : ℤ
  pub below : ℕ

abbrev pub den : Fraction → ℤ
den a = pos (suc a.below)

infix 50 ◌≤F◌
pub record ◌≤F◌ (a b : Fraction) : Type 0 where
  pub cross : (a.num *ℤ den b) ≤ℤ (b.num *ℤ den a)

infix 50 ◌<F◌
pub record ◌<F◌ (a b : Fraction) : Type 0 where
  pub strict : (a.num *ℤ den b) <ℤ (b.num *ℤ den a)

-- two fractions of one value
infix 50 ◌≈◌
pub record ◌≈◌ (a b : Fraction) : Type 0 where
  pub cross : a.num *ℤ den b ≡ b.num *ℤ den a

-- one less than the product of m + 1 and n + 1
abbrev pub below_product : ℕ → ℕ → ℕ
below_product m n = m * n + m + n

unfoldable pub plus : Fraction → Fraction → Fraction
plus a b = record { num = a.num *ℤ den b +ℤ b.num *ℤ den a; below = below_product a.below b.below }

unfoldable pub opposite : Fraction → Fraction
opposite a = record { num = neg_ℤ a.num; below = a.below }

-- the size of a fraction, its distance from 0
unfoldable pub size : Fraction → Fraction
size a = record { num = pos (unsigned_abs a.num); below = a.below }

unfoldable pub times : Fraction → Fraction → Fraction
times a b = record { num = a.num *ℤ b.num; below = below_product a.below b.below }

-- a whole number as a fraction
abbrev pub whole : ℤ → Fraction
whole n = record { num = n; below = 0 }

-- the greatest whole number that is not above n / (d + 1)
abbrev pub floor_quotient : ℤ → ℕ → ℤ
floor_quotient (pos n) d = pos (n / suc d)
floor_quotient (negsuc n) d = negsuc (n / suc d)

-- the greatest whole number that is not above a fraction
abbrev pub floor : Fraction → ℤ
floor a = floor_quotient a.num a.below

unfoldable pub is_at_most : Fraction → Fraction → Bool
is_at_most a b = le_z (a.num *ℤ den b) (b.num *ℤ den a)

unfoldable pub smaller : Fraction → Fraction → Fraction
smaller a b = cond (is_at_most a b) a b

unfoldable pub larger : Fraction → Fraction → Fraction
larger a b = cond (is_at_most a b) b a

-- 1 / a, and 0 for 0
unfoldable pub reciprocal : Fraction → Fraction
reciprocal a = elim a.num [
  | pos n ↦ elim n [ zero ↦ record { num = pos 0; below = 0 } | suc m ↦ record { num = den a; below = m } ]
  | negsuc n ↦ record { num = negsuc a.below; below = n }
]

-- a to the power k
unfoldable pub power : Fraction → ℕ → Fraction
power a zero = record { num = pos 1; below = 0 }
power a (suc k) = times a (power a k)

abbrev pub is_even : ℕ → Bool
is_even zero = true
is_even (suc k) = not (is_even k)

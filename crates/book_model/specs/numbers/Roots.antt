-- Square roots at depth n, on the grid of 2^-2n: from the greatest multiple whose square is at most a number to the
-- least whose square is at least that.
use Rattle.std.specs.Prelude.{◌≡◌, ℕ, zero, suc, ◌+◌, ◌-◌, ◌*◌, ◌/◌, ◌^◌, cond, nat_le, ℤ, pos, negsuc}
use Rattle.exact_math.specs.Fraction.{Fraction, ◌≤F◌, times}
use Rattle.exact_math.specs.Interval.{Interval, everything, between}

-- the greatest whole number whose square is at most m
unfoldable pub root_below : ℕ → ℕ
root_below zero = zero
root_below (suc m) = cond (nat_le (suc (root_below m) * suc (root_below m)) (suc m)) (suc (root_below m)) (root_below m)

-- the least whole number whose square is at least m
unfoldable pub root_above : ℕ → ℕ
root_above zero = zero
root_above (suc m) = suc (root_below m)

-- the greater of 2 r + 1 and 2 r whose square is at most m
abbrev pub next_digit : ℕ → ℕ → ℕ
next_digit r m = cond (nat_le (suc (2 * r) * suc (2 * r)) m) (suc (2 * r)) (2 * r)

-- the same root, of a number below 4^j, digit by digit
unfoldable pub root_by_digits : ℕ → ℕ → ℕ
root_by_digits zero m = zero
root_by_digits (suc j) m = next_digit (root_by_digits j (m / 4)) m

-- k / 2^2n
abbrev pub on_grid : ℕ → ℕ → Fraction
on_grid n k = record { num = pos k; below = 4 ^ n - 1 }

-- a whole number, or 0 where it is negative
abbrev pub natural_part : ℤ → ℕ
natural_part (pos k) = k
natural_part (negsuc k) = zero

-- a fraction, or 0 where it is negative
abbrev pub not_negative : Fraction → Fraction
not_negative a = record { num = pos (natural_part a.num); below = a.below }

-- the lower endpoint of the root, of a in 2^-4n rounded down
unfoldable pub root_low : ℕ → Fraction → Fraction
root_low n a = on_grid n (root_below ((natural_part a.num * 16 ^ n) / suc a.below))

-- the upper endpoint, of a in 2^-4n rounded up
unfoldable pub root_high : ℕ → Fraction → Fraction
root_high n a = on_grid n (root_above ((natural_part a.num * 16 ^ n + a.below) / suc a.below))

-- the root of an interval: a negative endpoint counts as 0
unfoldable pub root_of : ℕ → Interval → Interval
root_of n everything = everything
root_of n (between a b) = between (root_low n a) (root_high n b)

-- q is the greatest multiple of 2^-2n whose square is at most a
pub record IsGreatestRoot (n : ℕ) (a q : Fraction) : Type 0 where
  pub multiple : (k : ℕ) × (q ≡ on_grid n k)
  pub square : times q q ≤F a
  pub greatest : (k : ℕ) → times (on_grid n k) (on_grid n k) ≤F a → on_grid n k ≤F q

-- q is the least multiple of 2^-2n whose square is at least a
pub record IsLeastRoot (n : ℕ) (a q : Fraction) : Type 0 where
  pub multiple : (k : ℕ) × (q ≡ on_grid n k)
  pub square : a ≤F times q q
  pub least : (k : ℕ) → a ≤F times (on_grid n k) (on_grid n k) → q ≤F on_grid n k

-- Numbers in 64 bits that are near a fraction; all are in units of 2^-64.
use Rattle.std.specs.Prelude.{ℕ, zero, suc, neg_ℤ, ◌^◌, ℤ, pos, ◌+ℤ◌, ◌≤ℤ◌}
use Rattle.book_model.specs.Fraction.{Fraction, ◌≤F◌, plus, opposite, times}
use Rattle.book_model.specs.Sums.{one_over}
use Rattle.book_model.specs.numbers.Arcs.{half}
use Rattle.encl_core.specs.Units.{at_64}

-- c is 1 / (d + 1), rounded down
pub record IsCut (c d : ℕ) : Type 0 where
  pub not_above : at_64 (pos c) ≤F one_over d
  pub close : one_over d ≤F at_64 (pos c +ℤ pos 1)

-- x is at most 1 above q, and at most 1/2
pub record IsNumber (q : ℕ) (x : Fraction) : Type 0 where
  pub not_above : at_64 (pos q) ≤F x
  pub close : x ≤F at_64 (pos q +ℤ pos 1)
  pub small : x ≤F half

-- u is at most 3 above w, and at most 1/4
pub record IsSquare (w : ℕ) (u : Fraction) : Type 0 where
  pub not_above : at_64 (pos w) ≤F u
  pub close : u ≤F at_64 (pos w +ℤ pos 3)
  pub small : u ≤F record { num = pos 1; below = 3 }

-- 1 / (d + 1) - u (1 / (d + 3) - u (..)), to the term after m more
unfoldable pub nested : Fraction → ℕ → ℕ → Fraction
nested u d zero = one_over d
nested u d (suc m) = plus (one_over d) (opposite (times u (nested u (suc (suc d)) m)))

-- two endpoints, in units of 2^-56, that lie within -128 and 128
pub record IsArc (lo hi : ℤ) : Type 0 where
  pub above : neg_ℤ (pos (2 ^ 63)) ≤ℤ lo
  pub below : hi ≤ℤ pos (2 ^ 63)

-- and within -256 and 256
pub record IsSmall (lo hi : ℤ) : Type 0 where
  pub above : neg_ℤ (pos (2 ^ 64)) ≤ℤ lo
  pub below : hi ≤ℤ pos (2 ^ 64)

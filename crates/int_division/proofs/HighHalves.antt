-- The high half of a product of two numbers of 64 bits, and numbers in units of 2^-64 as multiples of it. A product is
-- its high half times 2^64 and less than that more (`IsHigh`). Numbers in units are multiples of one unit, so that
-- inequalities between them become ones over fractions in which the unit is a variable: certificates of the crates
-- above prove these.
use Rattle.std.proofs.Common.{◌≡◌, ℕ, ◌+◌, ◌*◌, ◌/◌, ◌-◌, ◌^◌, ◌≤◌, arith, ℤ, pos, ◌+ℤ◌, ◌-ℤ◌}
use Rattle.std.proofs.lemmas.Int.{ints}
use Rattle.std.proofs.Math.Nat.{mul-le-mul_right}
use Rattle.exact_math.specs.Fraction.{Fraction, ◌≤F◌, ◌≈◌, whole, plus, opposite, times}
use Rattle.exact_math.proofs.Fractions.{le_trans}
use Rattle.exact_math.proofs.Same.{le_of_same, ge_of_same}
use Rattle.exact_math.proofs.Certificates.{zero_F}
use Rattle.int_division.specs.Units.{at_64}

-- 2^-64
unfoldable pub unit : Fraction
unit = at_64 (pos 1)

pub unit_nonneg : zero_F ≤F unit
unfolding unit
unit_nonneg = record { cross = omega (arith, ints) }

-- a number and a number more or less, as multiples of it
pub at_is : (n : ℤ) → at_64 n ≈ times (whole n) unit
unfolding unit times
at_is n = record { cross = omega (arith, ints) }

pub at_more : (n m : ℤ) → at_64 (n +ℤ m) ≈ times (plus (whole n) (whole m)) unit
unfolding unit plus times
at_more n m = record { cross = omega (arith, ints) }

pub at_less : (n m : ℤ) → at_64 (n -ℤ m) ≈ times (plus (whole n) (opposite (whole m))) unit
unfolding unit plus times opposite
at_less n m = record { cross = omega (arith, ints) }

-- h is the high half of the product of w and t
pub record IsHigh (h w t : ℕ) : Type 0 where
  pub not_above : h * 2 ^ 64 ≤ w * t
  pub close : w * t ≤ h * 2 ^ 64 + 2 ^ 64

pub high_is : (h w t : ℕ) → h ≡ w * t / 2 ^ 64 → IsHigh h w t
high_is h w t e = record { not_above = omega (arith, e); close = omega (arith, e) }

pub high_small : (h w t : ℕ) → IsHigh h w t → w ≤ 2 ^ 64 → h ≤ t
high_small h w t p k = omega (arith, p.not_above, mul-le-mul_right t k)

pub product_is : (w t : ℕ) → whole (pos (w * t)) ≈ times (whole (pos w)) (whole (pos t))
unfolding times
product_is w t = record { cross = omega (arith, ints) }

pub high_below : (h p : ℕ) → h * 2 ^ 64 ≤ p → whole (pos h) ≤F times (whole (pos p)) unit
unfolding unit times
high_below h p e = record { cross = omega (arith, ints, e) }

pub high_above : (h p : ℕ) → p ≤ h * 2 ^ 64 + 2 ^ 64 → times (whole (pos p)) unit ≤F plus (whole (pos h))
    (whole (pos 1))
unfolding unit times plus
high_above h p e = record { cross = omega (arith, ints, e) }

pub half_of : (t : ℕ) → 2 * t ≤ 2 ^ 64 → times (whole (pos 2)) (times (whole (pos t)) unit) ≤F whole (pos 1)
unfolding unit times
half_of t e = record { cross = omega (arith, ints, e) }

pub count_nonneg : (t : ℕ) → zero_F ≤F times (whole (pos t)) unit
unfolding unit times
count_nonneg t = record { cross = omega (arith, ints) }

-- from a bound at a count to one by the unit
pub from_at : (n : ℤ) (x : Fraction) → at_64 n ≤F x → times (whole n) unit ≤F x
from_at n x h = le_trans _ (at_64 n) x (ge_of_same (at_is n)) h

pub to_more : (n m : ℤ) (x : Fraction) → x ≤F at_64 (n +ℤ m) → x ≤F times (plus (whole n) (whole m)) unit
to_more n m x h = le_trans x (at_64 (n +ℤ m)) _ h (le_of_same (at_more n m))

pub from_less : (n m : ℤ) (x : Fraction) → at_64 (n -ℤ m) ≤F x → times (plus (whole n) (opposite (whole m))) unit ≤F x
from_less n m x h = le_trans _ (at_64 (n -ℤ m)) x (ge_of_same (at_less n m)) h

-- c - h, as a fraction
pub rest_is : (c h : ℕ) → h ≤ c → whole (pos (c - h)) ≈ plus (whole (pos c)) (opposite (whole (pos h)))
unfolding plus opposite
rest_is c h e = record { cross = omega (arith, ints, e) }

-- Intervals of fractions, and the operations that give the smallest interval which holds the result for all members.
use Rattle.std.specs.Prelude.{ℕ, Bool, true, cond, pos, negsuc}
use Rattle.exact_math.specs.Fraction.{Fraction, ◌≤F◌, plus, opposite, size, times, is_at_most, smaller, larger}
use Rattle.exact_math.specs.Fraction.{reciprocal, power as fraction_power, is_even}
use lib.Signed.{lt_z}

pub data Interval : Type 0 where
  everything : Interval
  between : Fraction → Fraction → Interval

-- the lower endpoint is not above the upper
abbrev pub IsProper : Interval → Type 0
IsProper everything = Unit {0}
IsProper (between lo hi) = lo ≤F hi

abbrev pub IsMember : Fraction → Interval → Type 0
IsMember x everything = Unit {0}
IsMember x (between lo hi) = (lo ≤F x) × (x ≤F hi)

-- the first lies within the second
abbrev pub AreWithin : Interval → Interval → Type 0
AreWithin i everything = Unit {0}
AreWithin everything (between c d) = ⊥
AreWithin (between a b) (between c d) = (c ≤F a) × (b ≤F d)

infix 50 ◌⊆◌
pub record ◌⊆◌ (i j : Interval) : Type 0 where
  pub endpoints : AreWithin i j

unfoldable pub sum : Interval → Interval → Interval
sum everything j = everything
sum (between a b) everything = everything
sum (between a b) (between c d) = between (plus a c) (plus b d)

unfoldable pub negative : Interval → Interval
negative everything = everything
negative (between a b) = between (opposite b) (opposite a)

-- the least and the greatest of four
unfoldable pub least : Fraction → Fraction → Fraction → Fraction → Fraction
least p q r s = smaller (smaller p q) (smaller r s)

unfoldable pub greatest : Fraction → Fraction → Fraction → Fraction → Fraction
greatest p q r s = larger (larger p q) (larger r s)

unfoldable pub product : Interval → Interval → Interval
product everything j = everything
product (between a b) everything = everything
product (between a b) (between c d) = between (least (times a c) (times a d) (times b c) (times b d))
    (greatest (times a c) (times a d) (times b c) (times b d))

unfoldable pub minimum : Interval → Interval → Interval
minimum everything j = everything
minimum (between a b) everything = everything
minimum (between a b) (between c d) = between (smaller a c) (smaller b d)

unfoldable pub maximum : Interval → Interval → Interval
maximum everything j = everything
maximum (between a b) everything = everything
maximum (between a b) (between c d) = between (larger a c) (larger b d)

unfoldable pub hull : Interval → Interval → Interval
hull everything j = everything
hull (between a b) everything = everything
hull (between a b) (between c d) = between (smaller a c) (larger b d)

abbrev pub one : Fraction
one = record { num = pos 1; below = 0 }

abbrev pub minus_one : Fraction
minus_one = record { num = negsuc 0; below = 0 }

-- to -1..1
unfoldable pub clamp : Interval → Interval
clamp everything = between minus_one one
clamp (between a b) = between (larger minus_one (smaller a one)) (larger minus_one (smaller b one))

unfoldable pub widen : Fraction → Interval → Interval
widen e everything = everything
widen e (between a b) = between (plus a (opposite (size e))) (plus b (size e))

abbrev pub zero_fraction : Fraction
zero_fraction = record { num = pos 0; below = 0 }

-- both endpoints of c..d are on one side of 0
abbrev pub excludes_zero : Fraction → Fraction → Bool
excludes_zero c d = cond (lt_z (pos 0) c.num) true (lt_z d.num (pos 0))

unfoldable pub quotient : Interval → Interval → Interval
quotient everything j = everything
quotient (between a b) everything = everything
quotient (between a b) (between c d) = cond (excludes_zero c d)
    (product (between a b) (between (reciprocal d) (reciprocal c))) everything

-- the least of the k-th powers for an even k
unfoldable pub least_even : Fraction → Fraction → ℕ → Fraction
least_even a b k = cond (is_at_most zero_fraction a) (fraction_power a k)
    (cond (is_at_most b zero_fraction) (fraction_power b k) (fraction_power zero_fraction k))

unfoldable pub power : Interval → ℕ → Interval
power everything k = everything
power (between a b) k = cond (is_even k) (between (least_even a b k) (larger (fraction_power a k) (fraction_power b k)))
    (between (fraction_power a k) (fraction_power b k))

-- the difference of the members
abbrev pub difference : Interval → Interval → Interval
difference i j = sum i (negative j)

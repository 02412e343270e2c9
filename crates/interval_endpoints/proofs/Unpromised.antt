-- The clauses on widths at a scale of which nothing is promised, and endpoints that are moved outwards. With no limits
-- every operation's bound computes to none, by cases of its arguments' bounds, so that such a kind of enclosure has
-- nothing to show of widths; of expressions it is the same, at scale 2^-8.
use Rattle.std.proofs.Common.{ℕ, zero, suc, arith, ℤ, pos, negsuc, ◌≤ℤ◌}
use Rattle.std.proofs.Math.Dec.{leb-suc-zero}
use Rattle.std.proofs.lemmas.Int.{ints}
use Rattle.book_model.specs.Fraction.{Fraction}
use Rattle.book_model.specs.Interval.{Interval, between, ◌⊆◌}
use Rattle.book_model.proofs.Intervals.{within_trans}
use Rattle.book_model.specs.numbers.Expressions.{Expression, integer, constant, add, subtract, multiply, divide, power}
use Rattle.book_model.specs.numbers.Expressions.{negate, scale, widen, root, remainder}
use Rattle.book_model.specs.numbers.Bounds.{Bound, unbounded, bounded, Reach, IsNarrow, bound_of, integer_bound}
use Rattle.book_model.specs.numbers.Bounds.{constant_bound, sum_bound, scaled_bound, difference_bound, product_bound}
use Rattle.book_model.specs.numbers.Bounds.{square_bound, power_bound, quotient_bound, negated_bound, spanned_bound}
use Rattle.book_model.specs.numbers.Bounds.{widen_bound, root_bound, remainder_bound, limits_of, no_limits}
use Rattle.book_model.specs.numbers.Relations.{Narrow, Keeps}
use Rattle.interval_endpoints.specs.Rounding.{at_36, Keeps64}
use Rattle.interval_endpoints.proofs.Keeping.{kept_within}

-- endpoints that are further out hold what lies between two
pub moved_outwards : (a b lo hi : ℤ) (i : Interval) → lo ≤ℤ a → b ≤ℤ hi → Keeps64 lo hi i
    → between (at_36 a) (at_36 b) ⊆ i
moved_outwards a b lo hi i l h k =
    within_trans
    (record { endpoints = (record { cross = omega (arith, ints, l) }, record { cross = omega (arith, ints, h) }) })
    (kept_within _ lo hi i k)

-- ---- where no limit is kept, no width is promised
integer_none : (w : ℕ) (n : ℤ) (i : Interval) → IsNarrow w (integer_bound no_limits n) i
unfolding integer_bound IsNarrow
integer_none w n i = rw leb-suc-zero tt

constant_none : (w : ℕ) (f : Fraction) (i : Interval) → IsNarrow w (constant_bound no_limits f) i
unfolding constant_bound IsNarrow
constant_none w f i = rw leb-suc-zero tt

sum_none : (w : ℕ) (a b : Bound) (i : Interval) → IsNarrow w (sum_bound no_limits a b) i
unfolding sum_bound IsNarrow
sum_none w unbounded b i = tt
sum_none w (bounded a c s k) unbounded i = tt
sum_none w (bounded a c s k) (bounded d e t m) i = rw leb-suc-zero tt

difference_none : (w : ℕ) (a b : Bound) (i : Interval) → IsNarrow w (difference_bound no_limits a b) i
unfolding difference_bound IsNarrow
difference_none w unbounded b i = tt
difference_none w (bounded a c s k) unbounded i = tt
difference_none w (bounded a c s k) (bounded d e t m) i = rw leb-suc-zero tt

negated_none : (w : ℕ) (a : Bound) (i : Interval) → IsNarrow w (negated_bound no_limits a) i
unfolding negated_bound IsNarrow
negated_none w unbounded i = tt
negated_none w (bounded a c s k) i = rw leb-suc-zero tt

scaled_none : (w : ℕ) (f : Fraction) (a : Bound) (i : Interval) → IsNarrow w (scaled_bound no_limits f a) i
unfolding scaled_bound IsNarrow
scaled_none w f unbounded i = tt
scaled_none w f (bounded a c s k) i = rw leb-suc-zero tt

widen_none : (w : ℕ) (f : Fraction) (a : Bound) (i : Interval) → IsNarrow w (widen_bound no_limits f a) i
unfolding widen_bound IsNarrow
widen_none w f unbounded i = tt
widen_none w f (bounded a c s k) i = rw leb-suc-zero tt

product_none : (w : ℕ) (a b : Bound) (i : Interval) → IsNarrow w (product_bound no_limits a b) i
unfolding product_bound IsNarrow
product_none w unbounded b i = tt
product_none w (bounded a c s k) unbounded i = tt
product_none w (bounded a c s k) (bounded d e t m) i = rw leb-suc-zero tt

square_none : (w : ℕ) (a : Bound) (i : Interval) → IsNarrow w (square_bound no_limits a) i
unfolding IsNarrow
square_none w unbounded i = tt
square_none w (bounded a c s k) i = rw leb-suc-zero tt

quotient_none : (w : ℕ) (a b : Bound) (i : Interval) → IsNarrow w (quotient_bound no_limits a b) i
unfolding quotient_bound IsNarrow
quotient_none w unbounded b i = tt
quotient_none w (bounded a c s k) unbounded i = tt
quotient_none w (bounded a c s k) (bounded (pos zero) e t m) i = tt
quotient_none w (bounded a c s k) (bounded (negsuc d) e t m) i = tt
quotient_none w (bounded a c s k) (bounded (pos (suc d)) e t m) i = rw leb-suc-zero tt

root_none : (w : ℕ) (a : Bound) (i : Interval) → IsNarrow w (root_bound no_limits a) i
unfolding root_bound IsNarrow
root_none w unbounded i = tt
root_none w (bounded (negsuc a) b s k) i = tt
root_none w (bounded (pos a) (negsuc b) s k) i = tt
root_none w (bounded (pos a) (pos zero) s k) i = rw leb-suc-zero tt
root_none w (bounded (pos a) (pos (suc b)) s k) i = rw leb-suc-zero tt

remainder_none : (w m : ℕ) (a : Bound) (i : Interval) → IsNarrow w (remainder_bound no_limits m a) i
unfolding remainder_bound IsNarrow
remainder_none w m unbounded i = tt
remainder_none w m (bounded a c s k) i = rw leb-suc-zero tt

spanned_none : (w : ℕ) (a : Bound) (i : Interval) → IsNarrow w (spanned_bound no_limits a) i
unfolding spanned_bound IsNarrow
spanned_none w unbounded i = tt
spanned_none w (bounded a c s k) i = rw leb-suc-zero tt

-- ---- the same of expressions, at scale 2^-8
pub narrow_integer : {E : Type 0} (shown : E → Interval) (r : Reach) (n : ℤ) (e : E)
    → Narrow shown (limits_of 8) r (integer n) e
unfolding Keeps bound_of limits_of
narrow_integer shown r n e = record { kept = integer_none r.width n _ }

pub narrow_constant : {E : Type 0} (shown : E → Interval) (r : Reach) (f : Fraction) (e : E)
    → Narrow shown (limits_of 8) r (constant f) e
unfolding Keeps bound_of limits_of
narrow_constant shown r f e = record { kept = constant_none r.width f _ }

pub narrow_add : {E : Type 0} (shown : E → Interval) (r : Reach) (x y : Expression) (e : E)
    → Narrow shown (limits_of 8) r (add x y) e
unfolding Keeps bound_of limits_of
narrow_add shown r x y e = record { kept = sum_none r.width _ _ _ }

pub narrow_subtract : {E : Type 0} (shown : E → Interval) (r : Reach) (x y : Expression) (e : E)
    → Narrow shown (limits_of 8) r (subtract x y) e
unfolding Keeps bound_of limits_of
narrow_subtract shown r x y e = record { kept = difference_none r.width _ _ _ }

pub narrow_negate : {E : Type 0} (shown : E → Interval) (r : Reach) (x : Expression) (e : E)
    → Narrow shown (limits_of 8) r (negate x) e
unfolding Keeps bound_of limits_of
narrow_negate shown r x e = record { kept = negated_none r.width _ _ }

pub narrow_scale : {E : Type 0} (shown : E → Interval) (r : Reach) (f : Fraction) (x : Expression) (e : E)
    → Narrow shown (limits_of 8) r (scale f x) e
unfolding Keeps bound_of limits_of
narrow_scale shown r f x e = record { kept = scaled_none r.width f _ _ }

pub narrow_widen : {E : Type 0} (shown : E → Interval) (r : Reach) (f : Fraction) (x : Expression) (e : E)
    → Narrow shown (limits_of 8) r (widen f x) e
unfolding Keeps bound_of limits_of
narrow_widen shown r f x e = record { kept = widen_none r.width f _ _ }

pub narrow_multiply : {E : Type 0} (shown : E → Interval) (r : Reach) (x y : Expression) (e : E)
    → Narrow shown (limits_of 8) r (multiply x y) e
unfolding Keeps bound_of limits_of
narrow_multiply shown r x y e = record { kept = product_none r.width _ _ _ }

pub narrow_square : {E : Type 0} (shown : E → Interval) (r : Reach) (x : Expression) (e : E)
    → Narrow shown (limits_of 8) r (power x 2) e
unfolding Keeps bound_of limits_of power_bound
narrow_square shown r x e = record { kept = square_none r.width (bound_of (limits_of 8) r.bounds x) (shown e) }

pub narrow_divide : {E : Type 0} (shown : E → Interval) (r : Reach) (x y : Expression) (e : E)
    → Narrow shown (limits_of 8) r (divide x y) e
unfolding Keeps bound_of limits_of
narrow_divide shown r x y e = record { kept = quotient_none r.width _ _ _ }

pub narrow_root : {E : Type 0} (shown : E → Interval) (r : Reach) (x : Expression) (e : E)
    → Narrow shown (limits_of 8) r (root x) e
unfolding Keeps bound_of limits_of
narrow_root shown r x e = record { kept = root_none r.width _ _ }

pub narrow_remainder : {E : Type 0} (shown : E → Interval) (r : Reach) (m : ℕ) (x : Expression) (q : ℤ) (e : E)
    → Narrow shown (limits_of 8) r (remainder m x q) e
unfolding Keeps bound_of limits_of
narrow_remainder shown r m x q e = record { kept = remainder_none r.width m _ _ }

-- the same of endpoints
pub narrow_endpoints : (w : ℕ) (b : Bound) (i : Interval) → IsNarrow w (spanned_bound (limits_of 8) b) i
unfolding limits_of
narrow_endpoints w b i = spanned_none w b i

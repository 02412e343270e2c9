-- How wide the angle of a direction is, of numbers in a box. The bounds of the quotient, its arctangent and 90 degrees
-- less that are computed over the box's sides (`implies`, evaluated), the width by the box's rate (`BoxQuotients`): so
-- it is a row of the table.
use Rattle.std.proofs.Common.{◌≡◌, ◌≤◌, ◌+◌, ◌-◌, ◌*◌, ◌^◌, refl, arith, true, ℕ, ℤ, pos, ◌≤ℤ◌, if◌then◌else◌, ◌==◌}
use Rattle.std.proofs.lemmas.Int.{ints}
use lib.IntN.{neg_ℤ}
use Rattle.book_model.specs.Fraction.{◌≤F◌}
use Rattle.book_model.specs.Interval.{Interval, everything, between, ◌⊆◌}
use Rattle.book_model.proofs.Fractions.{le_trans}
use Rattle.book_model.specs.programs.Leading.{units_of_56}
use Rattle.book_model.specs.programs.Widths.{IsWithin, IsAbout}
use Rattle.book_model.specs.numbers.Bounds.{Bound, bounded, Reach, IsNarrow, at_32, limits_of, limits_at, bound_of}
use Rattle.book_model.specs.numbers.Bounds.{implies, integer_bound, difference_bound}
use Rattle.book_model.specs.numbers.Bounds.{quotient_bound, arctangent_bound, arc_spans, spanned_bound}
use Rattle.book_model.specs.numbers.Expressions.{Expression, argument, integer, subtract, divide, arctangent}
use Rattle.book_model.specs.numbers.Relations.{Narrow, Keeps}
use Rattle.book_model.proofs.Implying.{limits_within}
use Rattle.encl_core.proofs.Measuring.{measured, measured_argument, sloped, looser}
use Rattle.arc_series.specs.Widths.{IsRateFrom, slow_width}
use Rattle.arc_series.proofs.BoxQuotients.{low_of, high_of, tight_is, tight_kept, IsCornered, cornered}

-- the range by one measure, and the width by another
both_within : (a b c d : ℤ) (v u : ℕ) (i : Interval) → IsWithin a b v i → IsWithin c d u i → IsWithin a b u i
unfolding IsNarrow
both_within a b c d v u everything h k = absurd h.kept
both_within a b c d v u (between x y) h k = record {
  kept = record
      { ordered = h.kept.ordered; above = h.kept.above; below = h.kept.below; close = k.kept.close };
}

-- y, which is argument 0, and x
abbrev sides : ℕ → Bound
sides k = if k == 0 then bounded (pos (2 ^ 28)) (pos (2 ^ 33)) (2 ^ 40) 0 else bounded (neg_ℤ (pos (2 ^ 33)))
    (neg_ℤ (pos (2 ^ 31))) (2 ^ 40) 0

range_reach : implies
    (bound_of (limits_at 56) sides (subtract (integer (pos 90)) (arctangent (divide (argument 1) (argument 0)))))
    (bounded (pos (90 * 2 ^ 32)) (pos (181 * 2 ^ 32)) (2 ^ 60) (2 ^ 60)) ≡ true
unfolding implies bound_of integer_bound difference_bound quotient_bound arctangent_bound arc_spans spanned_bound
range_reach = refl

abbrev arcs : ℕ → Bound
arcs k = bounded (neg_ℤ (pos (91 * 2 ^ 32))) (pos (91 * 2 ^ 32)) (2 ^ 40) 0

width_reach : implies (bound_of (limits_at 56) arcs (subtract (integer (pos 90)) (argument 0)))
    (bounded (neg_ℤ (pos (2 ^ 40))) (pos (2 ^ 40)) (2 ^ 40) 0)
    ≡ true
unfolding implies bound_of integer_bound difference_bound
width_reach = refl

-- the endpoints themselves
abbrev corners : (a b c d : ℤ) (v : ℕ) → ℕ → Bound
corners a b c d v k = if k == 0 then bounded c d 0 v else bounded a b 0 v

module _ {E : Type 0} (shown : E → Interval) (n v : ℕ) (y x : E) (e : n ≡ 56) (l : v ≤ 2 ^ 44)
    (hy : IsWithin (pos (2 ^ 28)) (pos (2 ^ 33)) v (shown y))
    (hx : IsWithin (neg_ℤ (pos (2 ^ 33))) (neg_ℤ (pos (2 ^ 31))) v (shown x)) (q : E)
    (f : (r : Reach) (a b : Expression) → Narrow shown (limits_of n) r a x → Narrow shown (limits_of n) r b y
    → Narrow shown (limits_of n) r (divide a b) q)
  where
    quotient_cornered : IsCornered v (shown q)
    unfolding Keeps bound_of
    quotient_cornered =
        let b : ℕ → Bound = corners (low_of (shown x)) (high_of (shown x)) (low_of (shown y)) (high_of (shown y)) v in
        let r : Reach = record { width = 0; bounds = b } in
        let k = f r (argument 1) (argument 0)
        (sloped shown (limits_of n) 0 v b 1 _ _ 0 v x refl (omega arith) (tight_kept _ _ v (shown x) hx))
        (sloped shown (limits_of n) 0 v b 0 _ _ 0 v y refl (omega arith) (tight_kept _ _ v (shown y) hy)) in
        cornered _ _ _ _ v (shown q) l (tight_is _ _ v (shown x) hx) (tight_is _ _ v (shown y) hy)
        (rw (limits_within n (omega arith) (omega arith), e) at k.kept)

    pub direction_within : (t z d : E)
        → ((low : ℤ) (p s w : ℕ) → n ≡ 56 → IsRateFrom s p → IsWithin low (neg_ℤ (pos p)) w (shown q)
        → IsAbout (91 * 2 ^ 32) (slow_width s w) (shown t))
        → ((r : Reach) (a : Expression) → Narrow shown (limits_of n) r a q
        → Narrow shown (limits_of n) r (arctangent a) t)
        → ((r : Reach) → Narrow shown (limits_of n) r (integer (pos 90)) z)
        → ((r : Reach) (a b : Expression) → Narrow shown (limits_of n) r a z → Narrow shown (limits_of n) r b t
        → Narrow shown (limits_of n) r (subtract a b) d)
        → IsWithin (pos (90 * 2 ^ 32)) (pos (181 * 2 ^ 32)) (230 * v + 2 ^ 20 - 2 ^ 9) (shown d)
    direction_within t z d s g h i =
        let c = quotient_cornered in
        let r : Reach = record { width = v; bounds = sides } in
        let w = slow_width c.rate c.width in
        let a = s c.low c.least c.rate c.width e c.enough c.kept in
        let u : Reach = record { width = w; bounds = arcs } in
        looser _ _ _ _ w (230 * v + 2 ^ 20 - 2 ^ 9) (shown d) (omega (arith, ints)) (omega (arith, ints))
        (omega (arith, c.fits))
        (both_within _ _ (neg_ℤ (pos (2 ^ 40))) (pos (2 ^ 40)) (2 ^ 20 * v + 2 ^ 60) w (shown d)
        (measured shown n v sides (subtract (integer (pos 90)) (arctangent (divide (argument 1) (argument 0)))) _ _
        (2 ^ 60) (2 ^ 60) (2 ^ 20 * v + 2 ^ 60) d e
        range_reach (omega arith)
        (i r _ _ (h r) (g r _ (f r (argument 1) (argument 0)
        (sloped shown (limits_of n) v v sides 1 _ _ (2 ^ 40) 0 x refl (omega arith) hx)
        (sloped shown (limits_of n) v v sides 0 _ _ (2 ^ 40) 0 y refl (omega arith) hy)))))
        (measured shown n w arcs (subtract (integer (pos 90)) (argument 0)) _ _ (2 ^ 40) 0 w d e width_reach
        (omega arith)
        (i u _ _ (h u) (measured_argument shown (limits_of n) _ _ w 0 t a))))

-- endpoints that lie in what is measured from 1/16 on are positive
pub start_positive : (high : ℤ) (v : ℕ) (i : Interval) (lo hi : ℤ) → IsWithin (pos (2 ^ 28)) high v i
    → between (units_of_56 lo) (units_of_56 hi) ⊆ i → pos 1
    ≤ℤ lo
unfolding IsNarrow
start_positive high v everything lo hi h k = absurd h.kept
start_positive high v (between a b) lo hi h k = by_cross (le_trans _ a _ h.kept.above k.endpoints.0)
  where
    by_cross : at_32 (pos (2 ^ 28)) ≤F units_of_56 lo → pos 1 ≤ℤ lo
    by_cross l = omega (arith, ints, l.cross)

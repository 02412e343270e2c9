-- The bound of an arctangent, from the span over two endpoints. The endpoints of an enclosure keep its bound, in whole
-- numbers; the span's width is 57.3 times theirs and 64 parts, and its range goes by the numbers whose arctangents are
-- whole. Then by cases of the bound, and of every number no width is known.
use Rattle.std.proofs.Common.{◌≡◌, ◌≤◌, ◌+◌, ◌*◌, ◌^◌, arith, ℕ, suc, ℤ, pos, negsuc, ◌+ℤ◌, ◌-ℤ◌, ◌*ℤ◌, ◌≤ℤ◌}
use Rattle.std.specs.Int.{int_min, int_max}
use Rattle.std.proofs.lemmas.Int.{ints, clamps}
use Rattle.std.proofs.Math.Nat.{mul-le-mul_right}
use lib.IntN.{neg_ℤ}
use Rattle.book_model.specs.Fraction.{plus}
use Rattle.book_model.specs.Interval.{Interval, everything, between, ◌⊆◌}
use Rattle.book_model.proofs.Fractions.{le_trans, le_refl, plus_mono}
use Rattle.book_model.proofs.Floors.{IsFloorQuotient, floor_quotient_is}
use Rattle.book_model.specs.programs.Leading.{units_of_56}
use Rattle.book_model.specs.numbers.Bounds.{Bound, unbounded, bounded, Limits, Reach, Spans, IsNarrow, bound_of}
use Rattle.book_model.specs.numbers.Bounds.{ceil_div, at_radians, arc_from, least_arc}
use Rattle.book_model.specs.numbers.Bounds.{greatest_arc, arc_spans, arctangent_bound, spanned_bound}
use Rattle.book_model.specs.numbers.Expressions.{Expression, arctangent}
use Rattle.book_model.specs.numbers.Relations.{Narrow, Keeps}
use Rattle.encl_core.specs.declared.span.Span.{Span}
use Rattle.arc_series.specs.Widths.{IsFrom, IsUpTo, IsOver}

-- ---- the endpoints of an enclosure
-- they keep its bound, since they lie within it and hold it
pub span_keeps : (w : ℕ) (b : Bound) (i : Interval) (lo hi : ℤ) → lo ≤ℤ hi
    → i ⊆ between (units_of_56 lo) (units_of_56 hi)
    → between (units_of_56 lo) (units_of_56 hi) ⊆ i
    → IsNarrow w b i → IsNarrow w b (between (units_of_56 lo) (units_of_56 hi))
unfolding IsNarrow
span_keeps w unbounded i lo hi o g h k = tt
span_keeps w (bounded a b s t) everything lo hi o g h k = absurd k
span_keeps w (bounded a b s t) (between c d) lo hi o g h k = record {
  ordered = record { cross = omega (arith, ints, o) };
  above = le_trans _ _ _ k.above h.endpoints.0;
  below = le_trans _ _ _ h.endpoints.1 k.below;
  close = le_trans _ _ _ h.endpoints.1 (le_trans _ _ _ k.close (plus_mono _ _ _ _ h.endpoints.0 (le_refl _)));
}

-- endpoints that keep a bound, in whole numbers
pub record AreKept (a b : ℤ) (s k w : ℕ) (from to : ℤ) : Type 0 where
  pub low : (a *ℤ pos (2 ^ 24)) ≤ℤ from
  pub high : to ≤ℤ (b *ℤ pos (2 ^ 24))
  pub order : from ≤ℤ to
  pub close : ((to -ℤ from) *ℤ pos (2 ^ 48)) ≤ℤ (pos (s * w) +ℤ pos (k * 2 ^ 40))

pub kept_of : (a b : ℤ) (s k w : ℕ) (from to : ℤ) → Spans a b s k w (units_of_56 from) (units_of_56 to)
    → AreKept a b s k w from to
unfolding plus
kept_of a b s k w from to h = record {
  low = omega (arith, ints, h.above.cross);
  high = omega (arith, ints, h.below.cross);
  order = omega (arith, ints, h.ordered.cross);
  close = omega (arith, ints, h.close.cross);
}

pub spans_of : (a b : ℤ) (s k w : ℕ) (lo hi : ℤ) → AreKept a b s k w lo hi
    → Spans a b s k w (units_of_56 lo) (units_of_56 hi)
unfolding plus
spans_of a b s k w lo hi h = record {
  ordered = record { cross = omega (arith, ints, h.order) };
  above = record { cross = omega (arith, ints, h.low) };
  below = record { cross = omega (arith, ints, h.high) };
  close = record { cross = omega (arith, ints, h.close) };
}

-- ---- the width
pub ceil_above : (n d : ℕ) → n ≤ ceil_div n d * suc d
ceil_above n d = omega arith

rated : (s t w : ℕ) → s * 573 ≤ t * 10 → s * w * 573 ≤ t * w * 10
rated s t w h = omega (arith, mul-le-mul_right w h)

-- 57.3 times the width, and 64 parts
close_arc : (s k w : ℕ) (from to lo hi : ℤ) → ((to -ℤ from) *ℤ pos (2 ^ 48)) ≤ℤ (pos (s * w) +ℤ pos (k * 2 ^ 40))
    → ((hi -ℤ lo) *ℤ pos 10) ≤ℤ ((to -ℤ from) *ℤ pos 573 +ℤ pos 560)
    → ((hi -ℤ lo) *ℤ pos (2 ^ 48))
    ≤ℤ (pos (ceil_div (s * 573) 9 * w) +ℤ pos ((ceil_div (k * 573) 9 + 64 * 2 ^ 8) * 2 ^ 40))
close_arc s k w from to lo hi h n = by_quotients (ceil_div (s * 573) 9) (ceil_div (k * 573) 9) (ceil_above (s * 573) 9)
    (ceil_above (k * 573) 9)
  where
    by_quotients : (t m : ℕ) → s * 573 ≤ t * 10 → k * 573 ≤ m * 10
        → ((hi -ℤ lo) *ℤ pos (2 ^ 48)) ≤ℤ (pos (t * w) +ℤ pos ((m + 64 * 2 ^ 8) * 2 ^ 40))
    by_quotients t m p q = omega (arith, ints, h, n, rated s t w p, q)

-- ---- the range
-- at one of the numbers whose arctangents are whole
below_by : (v x a k n z : ℤ) → (a *ℤ pos (2 ^ 24)) ≤ℤ k → n ≡ (k -ℤ x *ℤ pos (2 ^ 56)) *ℤ pos 573
    → int_min (pos 0) n ≤ℤ ((z -ℤ v *ℤ pos (2 ^ 56) +ℤ pos 10) *ℤ pos 10)
    → (arc_from v x a *ℤ pos (2 ^ 24)) ≤ℤ (z +ℤ pos (2 ^ 24))
below_by v x a k n z h e f = by_floor (at_radians (a -ℤ x *ℤ pos (2 ^ 32)))
    (floor_quotient_is ((a -ℤ x *ℤ pos (2 ^ 32)) *ℤ pos 573) 9)
  where
    by_floor : (q : ℤ) → IsFloorQuotient q ((a -ℤ x *ℤ pos (2 ^ 32)) *ℤ pos 573) 9
        → ((v *ℤ pos (2 ^ 32) +ℤ int_min (pos 0) q) *ℤ pos (2 ^ 24)) ≤ℤ (z +ℤ pos (2 ^ 24))
    by_floor q i = omega (arith, ints, clamps, i.not_above, h, e, f)

-- the greatest of four, less 1
least_of : (p q r z : ℤ) → (neg_ℤ (pos (90 * 2 ^ 32)) *ℤ pos (2 ^ 24)) ≤ℤ (z +ℤ pos (2 ^ 24))
    → (p *ℤ pos (2 ^ 24)) ≤ℤ (z +ℤ pos (2 ^ 24))
    → (q *ℤ pos (2 ^ 24)) ≤ℤ (z +ℤ pos (2 ^ 24)) → (r *ℤ pos (2 ^ 24)) ≤ℤ (z +ℤ pos (2 ^ 24))
    → ((int_max (int_max (neg_ℤ (pos (90 * 2 ^ 32))) p) (int_max q r) -ℤ pos 1) *ℤ pos (2 ^ 24)) ≤ℤ z
least_of p q r z h k l m = omega (arith, ints, clamps, h, k, l, m)

low_arc : (a k z : ℤ) → (a *ℤ pos (2 ^ 24)) ≤ℤ k → IsFrom k z → (least_arc a *ℤ pos (2 ^ 24)) ≤ℤ z
low_arc a k z h f =
    let p = below_by (negsuc 44) (negsuc 0) a k ((k +ℤ pos (2 ^ 56)) *ℤ pos 573) z h (omega (arith, ints))
    (omega (arith, ints, f.minus_one)) in
    let q = below_by (pos 0) (pos 0) a k (k *ℤ pos 573) z h (omega (arith, ints)) (omega (arith, ints, f.none)) in
    let r = below_by (pos 45) (pos 1) a k ((k -ℤ pos (2 ^ 56)) *ℤ pos 573) z h (omega (arith, ints))
    (omega (arith, ints, f.one)) in
    least_of (arc_from (negsuc 44) (negsuc 0) a) (arc_from (pos 0) (pos 0) a) (arc_from (pos 45) (pos 1) a) z
    (omega (arith, ints, f.quarter)) p q r

high_arc : (b k z : ℤ) → k ≤ℤ (b *ℤ pos (2 ^ 24)) → IsUpTo k z → z ≤ℤ (greatest_arc b *ℤ pos (2 ^ 24))
high_arc b k z h f = let l = low_arc (neg_ℤ b) (neg_ℤ k) (neg_ℤ z) (omega (arith, ints, h)) f in
    by_least (least_arc (neg_ℤ b)) l
  where
    by_least : (m : ℤ) → (m *ℤ pos (2 ^ 24)) ≤ℤ neg_ℤ z → z ≤ℤ (neg_ℤ m *ℤ pos (2 ^ 24))
    by_least m l = omega (arith, ints, l)

-- ---- both
arc_kept : (w : ℕ) (b : Bound) (from to : ℤ) (r : Span) → IsOver from to r
    → IsNarrow w b (between (units_of_56 from) (units_of_56 to))
    → IsNarrow w (arc_spans b) (between (units_of_56 r.lo) (units_of_56 r.hi))
unfolding arc_spans IsNarrow
arc_kept w unbounded from to r h k = tt
arc_kept w (bounded a b s t) from to r h k =
    let e = kept_of a b s t w from to k in
    spans_of _ _ _ _ w r.lo r.hi (record {
      low = low_arc a from r.lo e.low h.above;
      high = high_arc b to r.hi e.high h.below;
      order = r.ordered;
      close = close_arc s t w from to r.lo r.hi e.close h.narrow;
    })

pub arctangent_keeps : {E : Type 0} (shown : E → Interval) (l : Limits) (r : Reach) (a : Expression) (x y : E)
    (from to : ℤ) (s : Span) → from ≤ℤ to
    → shown x ⊆ between (units_of_56 from) (units_of_56 to) → between (units_of_56 from) (units_of_56 to) ⊆ shown x
    → IsOver from to s
    → ((w : ℕ) (b : Bound) → IsNarrow w b (between (units_of_56 s.lo) (units_of_56 s.hi))
    → IsNarrow w (spanned_bound l b) (shown y)) → Narrow shown l r a x
    → Narrow shown l r (arctangent a) y
unfolding Keeps bound_of arctangent_bound
arctangent_keeps shown l r a x y from to s o g h n f k =
    record {
      kept =
          f r.width _ (arc_kept r.width (bound_of l r.bounds a) from to s n
          (span_keeps r.width (bound_of l r.bounds a) (shown x) from to o g h k.kept));
    }

-- of every number no width is known
arc_of_all : (w : ℕ) (l : Limits) (b : Bound) (i : Interval) → IsNarrow w b everything
    → IsNarrow w (spanned_bound l (arc_spans b)) i
unfolding arc_spans spanned_bound IsNarrow
arc_of_all w l unbounded i h = tt
arc_of_all w l (bounded a b s k) i h = absurd h

pub arctangent_keeps_all : {E : Type 0} (shown : E → Interval) (l : Limits) (r : Reach) (a : Expression) (x y : E)
    → shown x ≡ everything
    → Narrow shown l r a x → Narrow shown l r (arctangent a) y
unfolding Keeps bound_of arctangent_bound
arctangent_keeps_all shown l r a x y e k = record {
  kept = arc_of_all r.width l (bound_of l r.bounds a) (shown y)
      (rw e at k.kept);
}

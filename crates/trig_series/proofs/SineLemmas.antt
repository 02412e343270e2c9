-- Sine, cosine and tangent as operations of enclosures. What the spans hold, and how wide they are, is shown of the
-- functions on endpoints; here it is cut to -1..1, taken over 90 degrees more for a cosine, and carried to expressions.
-- The bound goes by what the definition tells of values: their extent far from 0, near 0, near 90 degrees and inside an
-- octant, case by case.
use Rattle.std.proofs.Common.{◌≡◌, ℕ, zero, suc, ◌+◌, ◌*◌, ◌-◌, ◌^◌, ◌≤◌, ◌<◌, unsigned_abs, [], ◌∷◌, refl, sym, arith}
use Rattle.std.proofs.Common.{Bool, true, false, cond, neg_ℤ, ℤ}
use Rattle.std.proofs.Common.{pos, ◌+ℤ◌, ◌-ℤ◌, ◌*ℤ◌, ◌≤ℤ◌, ◌<ℤ◌, ◌⊎◌, inl, inr}
use Rattle.std.specs.Prelude.{nat_lt, ◌&&◌}
use Rattle.std.specs.Int.{int_max, int_min}
use Rattle.std.proofs.lemmas.Int.{ints, clamps, by_lt_z}
use lib.Signed.{lt_z}
use Rattle.book_model.proofs.Ring.{at, lit, ◌⊗◌}
use Rattle.book_model.proofs.Bounds.{◌≼◌, known, ◌⊞◌, ◌⊠◌, times as naturally, le_by, square_nonneg}
use Rattle.std.proofs.lemmas.Bool.{ltb-true}
use Rattle.std.proofs.Math.Nat.{mul-le-mul_right}
use Rattle.book_model.specs.Fraction.{Fraction, ◌≤F◌, whole, plus}
use Rattle.book_model.specs.Interval.{Interval, everything, between, IsProper, ◌⊆◌, sum, one, minus_one}
use Rattle.book_model.proofs.Fractions.{le_trans, le_refl, plus_mono}
use Rattle.book_model.proofs.Intervals.{within_trans, within_refl, sum_within, plus_proper}
use Rattle.book_model.specs.numbers.Bounds.{Bound, unbounded, bounded, Limits, Reach, Spans, IsNarrow, bound_of}
use Rattle.book_model.specs.numbers.Bounds.{limited, range_size, ceil_div, eighth_turn}
use Rattle.book_model.specs.numbers.Bounds.{Extent, opposites, sine_from, sine_to, cosine_from, octant_extent}
use Rattle.book_model.specs.numbers.Bounds.{octant_at, lie_inside, inside_extent}
use Rattle.book_model.specs.numbers.Bounds.{sine_near_none, cosine_near_none, quarter_later, sine_spans, cosine_spans}
use Rattle.book_model.specs.numbers.Bounds.{spanned_bound}
use Rattle.book_model.specs.numbers.Expressions.{Expression, World, value, divide, sine, cosine, tangent}
use Rattle.book_model.specs.programs.Leading.{units_of_56}
use Rattle.book_model.specs.numbers.Octants.{only, octant_of_turn, sine_of_degrees, cosine_of_degrees}
use Rattle.book_model.specs.numbers.Octants.{tangent_of_degrees}
use Rattle.book_model.specs.numbers.Relations.{Within, Lies, Narrow, Keeps}
use Rattle.book_model.proofs.Values.{value_proper}
use Rattle.book_model.proofs.OctantHulls.{all_sines}
use Rattle.book_model.proofs.DegreeSines.{degree_sines, sine_inside}
use Rattle.encl_core.specs.parts.TheConstants.{ONE, OCTANT, QUARTER, TURN}
use Rattle.trig_series.specs.Points.{IsAround, IsRising, IsCrest, IsPart, IsInside, IsNarrowSine, IsNarrowCosine}
use Rattle.trig_series.proofs.OctantLemmas.{order_at, by_max, by_min}

-- ---- whatever a sine may be
all_inside : (lo hi : ℤ) → lo ≡ neg_ℤ ONE → hi ≡ ONE → all_sines ⊆ between (units_of_56 lo) (units_of_56 hi)
all_inside lo hi e f =
    rw (e, f) (record { endpoints = (record { cross = omega (arith, ints) }, record { cross = omega (arith, ints) }) })

pub all_hold : (n : ℕ) (i : Interval) (lo hi : ℤ) → IsProper i → lo ≡ neg_ℤ ONE → hi ≡ ONE
    → sine_of_degrees n i ⊆ between (units_of_56 lo) (units_of_56 hi)
all_hold n i lo hi p e f = within_trans (sine_inside n i p) (all_inside lo hi e f)

pub quarter_proper : (i : Interval) → IsProper i → IsProper (sum i (only (whole (pos 90))))
quarter_proper i p = plus_proper i (only (whole (pos 90))) p (le_refl (whole (pos 90)))

pub all_cosines_hold : (n : ℕ) (i : Interval) (lo hi : ℤ) → IsProper i → lo ≡ neg_ℤ ONE → hi ≡ ONE
    → cosine_of_degrees n i ⊆ between (units_of_56 lo) (units_of_56 hi)
unfolding cosine_of_degrees
all_cosines_hold n i lo hi p e f = all_hold n (sum i (only (whole (pos 90)))) lo hi (quarter_proper i p) e f

-- ---- a sine, cut to -1..1
low_cut : (a : Fraction) (lo p q : ℤ) → p ≡ int_max lo (neg_ℤ ONE) → q ≡ int_min p ONE → units_of_56 lo ≤F a
    → minus_one ≤F a → a ≤F one → units_of_56 q ≤F a
low_cut a lo p q e f h m u =
    let n : units_of_56 (neg_ℤ ONE) ≤F a = le_trans _ minus_one a (record { cross = omega (arith, ints) }) m in
    le_trans _ (units_of_56 p) a (order_at q p (omega (arith, ints, clamps, f)))
    (by_max lo (neg_ℤ ONE) p (λ z. units_of_56 z ≤F a) e h n)

high_cut : (a : Fraction) (hi p q : ℤ) → p ≡ int_max hi (neg_ℤ ONE) → q ≡ int_min p ONE → a ≤F units_of_56 hi → a ≤F one
    → a ≤F units_of_56 q
high_cut a hi p q e f h u =
    by_min p ONE q (λ z. a ≤F units_of_56 z) f
    (le_trans a (units_of_56 hi) (units_of_56 p) h (order_at hi p (omega (arith, ints, clamps, e))))
    (le_trans a one _ u (record { cross = omega (arith, ints) }))

within_cut : (i : Interval) (lo hi p q p' q' : ℤ) → IsProper i → i ⊆ all_sines
    → i ⊆ between (units_of_56 lo) (units_of_56 hi) → p ≡ int_max lo (neg_ℤ ONE)
    → q ≡ int_min p ONE
    → p' ≡ int_max hi (neg_ℤ ONE) → q' ≡ int_min p' ONE → i ⊆ between (units_of_56 q) (units_of_56 q')
within_cut everything lo hi p q p' q' n h k e f e' f' = absurd h.endpoints
within_cut (between a b) lo hi p q p' q' n h k e f e' f' = record {
  endpoints = (
    low_cut a lo p q e f k.endpoints.0 h.endpoints.0 (le_trans a b one n h.endpoints.1),
    high_cut b hi p' q' e' f' k.endpoints.1 h.endpoints.1,
  );
}

pub cut_holds : (n : ℕ) (i : Interval) (lo hi p q p' q' : ℤ) → IsProper i
    → sine_of_degrees n i ⊆ between (units_of_56 lo) (units_of_56 hi) → p
    ≡ int_max lo (neg_ℤ ONE)
    → q ≡ int_min p ONE
    → p' ≡ int_max hi (neg_ℤ ONE) → q' ≡ int_min p' ONE → sine_of_degrees n i ⊆ between (units_of_56 q) (units_of_56 q')
cut_holds n i lo hi p q p' q' r h e f e' f' = within_cut (sine_of_degrees n i) lo hi p q p' q'
    (degree_sines.proper n i r) (sine_inside n i r) h e f e' f'

cut_around_none : (w lo hi p q p' q' : ℤ) → pos 0 ≤ℤ w → p ≡ int_max lo (neg_ℤ ONE) → q ≡ int_min p ONE
    → p' ≡ int_max hi (neg_ℤ ONE) → q' ≡ int_min p' ONE
    → IsAround (pos 0) w lo hi → IsAround (pos 0) w q q'
cut_around_none w lo hi p q p' q' z e f e' f' h =
    record { up = omega (arith, ints, clamps, z, e', f', h.up); down = omega (arith, ints, clamps, z, e, f, h.down) }

-- what is cut to -1..1 lies no further out, or at an endpoint
record AreCut (lo hi q q' : ℤ) : Type 0 where
  low : (lo ≤ℤ q) ⊎ (q ≡ ONE)
  high : (q' ≤ℤ hi) ⊎ (q' ≡ neg_ℤ ONE)

cut_of : (lo hi p q p' q' : ℤ) → p ≡ int_max lo (neg_ℤ ONE) → q ≡ int_min p ONE → p' ≡ int_max hi (neg_ℤ ONE)
    → q' ≡ int_min p' ONE → AreCut lo hi q q'
cut_of lo hi p q p' q' e f e' f' = record {
  low = by_lt_z lo ONE (λ l. inl (omega (arith, ints, clamps, e, f, l)))
      (λ l. inr (omega (arith, ints, clamps, e, f, l)));
  high = by_lt_z (neg_ℤ ONE) hi (λ l. inl (omega (arith, ints, clamps, e', f', l)))
      (λ l. inr (omega (arith, ints, clamps, e', f', l)));
}

cut_crest : (w lo hi q q' : ℤ) → AreCut lo hi q q' → IsCrest w lo → IsCrest w q
cut_crest w lo hi q q' c h = by_low c.low
  where
    by_low : (lo ≤ℤ q) ⊎ (q ≡ ONE) → IsCrest w q
    by_low (inl l) = record { down = omega (arith, ints, l, h.down) }
    by_low (inr e) = let n = square_nonneg w in record { down = omega (arith, ints, e, n) }

cut_rising : (f t : ℕ) (lo hi q q' : ℤ) → f ≤ OCTANT → AreCut lo hi q q' → IsRising (pos f) (pos t) lo hi
    → IsRising (pos f) (pos t) q q'
cut_rising f t lo hi q q' u c h = record { up = by_high c.high; down = by_low c.low }
  where
    by_high : (q' ≤ℤ hi) ⊎ (q' ≡ neg_ℤ ONE) → (pos 57 *ℤ q') ≤ℤ (pos t +ℤ pos 513)
    by_high (inl l) = omega (arith, ints, l, h.up)
    by_high (inr e) = omega (arith, ints, e)

    by_low : (lo ≤ℤ q) ⊎ (q ≡ ONE) → (pos 20 *ℤ pos f) ≤ℤ (pos 1279 *ℤ (q +ℤ pos 5))
    by_low (inl l) = omega (arith, ints, l, h.down)
    by_low (inr e) = omega (arith, ints, e, u)

turned_cut : (lo hi q q' : ℤ) → AreCut lo hi q q' → AreCut (neg_ℤ hi) (neg_ℤ lo) (neg_ℤ q') (neg_ℤ q)
turned_cut lo hi q q' c = record { low = by_high c.high; high = by_low c.low }
  where
    by_high : (q' ≤ℤ hi) ⊎ (q' ≡ neg_ℤ ONE) → (neg_ℤ hi ≤ℤ neg_ℤ q') ⊎ (neg_ℤ q' ≡ ONE)
    by_high (inl l) = inl (omega (arith, ints, l))
    by_high (inr e) = inr (omega (arith, ints, e))

    by_low : (lo ≤ℤ q) ⊎ (q ≡ ONE) → (neg_ℤ q ≤ℤ neg_ℤ lo) ⊎ (neg_ℤ q ≡ neg_ℤ ONE)
    by_low (inl l) = inl (omega (arith, ints, l))
    by_low (inr e) = inr (omega (arith, ints, e))

cut_part : (j f t : ℕ) (lo hi q q' : ℤ) → f ≤ OCTANT → AreCut lo hi q q' → IsPart j f t lo hi → IsPart j f t q q'
unfolding IsPart
cut_part zero f t lo hi q q' u c h = cut_rising f t lo hi q q' u c h
cut_part (suc zero) f t lo hi q q' u c h = cut_crest _ lo hi q q' c h
cut_part (suc (suc zero)) f t lo hi q q' u c h = cut_crest _ lo hi q q' c h
cut_part (suc (suc (suc zero))) f t lo hi q q' u c h = cut_rising (OCTANT - t) (OCTANT - f) lo hi q q' (omega arith) c h
cut_part (suc (suc (suc (suc j)))) f t lo hi q q' u c h = cut_part j f t _ _ _ _ u (turned_cut lo hi q q' c) h

cut_apart : (v lo hi p q p' q' : ℤ) → pos 0 ≤ℤ v → (pos 57 *ℤ (hi -ℤ lo)) ≤ℤ v → p ≡ int_max lo (neg_ℤ ONE)
    → q ≡ int_min p ONE → p' ≡ int_max hi (neg_ℤ ONE)
    → q' ≡ int_min p' ONE → (pos 57 *ℤ (q' -ℤ q)) ≤ℤ v
cut_apart v lo hi p q p' q' z h e f e' f' = omega (arith, ints, clamps, z, h, e, f, e', f')

-- what three octants allow is more than the sine has
many : (from to q q' : ℤ) → pos 9727775195120271360 ≤ℤ (to -ℤ from) → neg_ℤ ONE ≤ℤ q → q' ≤ℤ ONE
    → (pos 57 *ℤ (q' -ℤ q)) ≤ℤ ((to -ℤ from) +ℤ pos 2052)
many from to q q' h l u = omega (arith, ints, h, l, u)

pub cut_narrow : (from to lo hi p q p' q' : ℤ) → from ≤ℤ to → p ≡ int_max lo (neg_ℤ ONE) → q ≡ int_min p ONE
    → p' ≡ int_max hi (neg_ℤ ONE) → q' ≡ int_min p' ONE
    → (pos 9727775195120271360 ≤ℤ (to -ℤ from)) ⊎ ((pos 57 *ℤ (hi -ℤ lo)) ≤ℤ ((to -ℤ from) +ℤ pos 2052))
    → ((a : ℤ) → neg_ℤ a ≤ℤ from → to ≤ℤ a → a <ℤ pos OCTANT → IsAround (pos 0) a lo hi)
    → ((a : ℤ) → (QUARTER -ℤ a) ≤ℤ from → to ≤ℤ (QUARTER +ℤ a) → a <ℤ pos OCTANT → IsCrest a lo)
    → ((k : ℤ) → IsInside k from to → IsPart (octant_of_turn k) (unsigned_abs (from -ℤ k *ℤ pos OCTANT))
    (unsigned_abs (to -ℤ k *ℤ pos OCTANT)) lo hi)
    → IsNarrowSine from to q q'
cut_narrow from to lo hi p q p' q' o e f e' f' n s c i =
    let g = cut_of lo hi p q p' q' e f e' f' in
    let l : neg_ℤ ONE ≤ℤ q = omega (arith, ints, clamps, e, f) in
    let u : q' ≤ℤ ONE = omega (arith, ints, clamps, e', f') in
    record {
      above = l;
      below = u;
      narrow = λ r t. elim n [
        | inl m ↦ many from to q q' m l u
        | inr m ↦ cut_apart _ lo hi p q p' q'
            (omega (arith, ints, o)) m e f e' f'
      ];
      small = λ a x y z. cut_around_none a lo hi p q p' q' (omega (arith, ints, o, x, y)) e f e' f' (s a x y z);
      crest = λ a x y z. cut_crest a lo hi q q' g (c a x y z);
      inside = λ r t k d. cut_part (octant_of_turn k) _ _ lo hi q q' (omega (arith, ints, o, d.above, d.below)) g
          (i k d);
    }

-- ---- endpoints that are far from 0 or far apart
pub apart_sine : (from to lo hi : ℤ) → TURN ≤ℤ (to -ℤ from) → lo ≡ neg_ℤ ONE → hi ≡ ONE → IsNarrowSine from to lo hi
apart_sine from to lo hi h e f = record {
  above = omega (arith, ints, e);
  below = omega (arith, ints, f);
  narrow = λ r t. omega (arith, ints, h, e, f);
  small = λ a x y z. absurd (omega (arith, ints, h, x, y, z));
  crest = λ a x y z. absurd (omega (arith, ints, h, x, y, z));
  inside = λ r t k d. absurd (omega (arith, ints, h, d.above, d.below));
}

-- ---- 90 degrees more
quarter_more : (from to a b : ℤ) → a ≡ from +ℤ QUARTER → b ≡ to +ℤ QUARTER
    → sum (between (units_of_56 from) (units_of_56 to)) (only (whole (pos 90))) ⊆ between (units_of_56 a)
    (units_of_56 b)
unfolding sum plus
quarter_more from to a b e f =
    rw (e, f) (record { endpoints = (record { cross = omega (arith, ints) }, record { cross = omega (arith, ints) }) })

pub quarter_holds : (n : ℕ) (from to a b lo hi : ℤ) → from ≤ℤ to → a ≡ from +ℤ QUARTER → b ≡ to +ℤ QUARTER
    → sine_of_degrees n (between (units_of_56 a) (units_of_56 b)) ⊆ between (units_of_56 lo) (units_of_56 hi)
    → cosine_of_degrees n (between (units_of_56 from) (units_of_56 to)) ⊆ between (units_of_56 lo) (units_of_56 hi)
unfolding cosine_of_degrees
quarter_holds n from to a b lo hi o e f h =
    within_trans
    (degree_sines.within n (quarter_proper (between (units_of_56 from) (units_of_56 to)) (order_at from to o))
    (quarter_more from to a b e f)) h

pub quarter_narrow : (from to a b lo hi : ℤ) → a ≡ from +ℤ QUARTER → b ≡ to +ℤ QUARTER → IsNarrowSine a b lo hi
    → IsNarrowCosine from to lo hi
quarter_narrow from to a b lo hi e f h = record {
  above = h.above;
  below = h.below;
  narrow = λ r t. let n = h.narrow (omega (arith, ints, e, r)) (omega (arith, ints, f, t)) in
      omega (arith, ints, n, e, f);
  crest = λ c x y z. h.crest c (omega (arith, ints, e, x)) (omega (arith, ints, f, y)) z;
  inside = λ r t k d. let g = rw (e, f) at h in g.inside (omega (arith, ints, r)) (omega (arith, ints, t)) k d;
}

pub far_cosine : (from to lo hi : ℤ) → pos (2 ^ 120) <ℤ to → from ≤ℤ to → lo ≡ neg_ℤ ONE → hi ≡ ONE
    → IsNarrowCosine from to lo hi
far_cosine from to lo hi h o e f = record {
  above = omega (arith, ints, e);
  below = omega (arith, ints, f);
  narrow = λ r t. absurd (omega (arith, ints, h, t));
  crest = λ a x y z. absurd (omega (arith, ints, h, y, z));
  inside = λ r t k d. absurd (omega (arith, ints, h, t));
}

-- ---- the three functions hold
pub sine_holds : {E : Type 0} (shown : E → Interval) (w : World) (a : Expression) (x r : E) (from to lo hi : ℤ)
    → shown x ⊆ between (units_of_56 from) (units_of_56 to)
    → ((n : ℕ) → 40 ≤ n → sine_of_degrees n (between (units_of_56 from) (units_of_56 to)) ⊆ between (units_of_56 lo)
    (units_of_56 hi))
    → between (units_of_56 lo) (units_of_56 hi) ⊆ shown r → Within shown w a x → Within shown w (sine a) r
unfolding Lies value
sine_holds shown w a x r from to lo hi s f t h =
    record {
      deep =
          h.deep;
      inside = within_trans (within_trans (degree_sines.within w.depth (value_proper w a) (within_trans h.inside s))
          (f w.depth h.deep)) t;
    }

pub sine_somewhere : {E : Type 0} (shown : E → Interval) (w : World) (a : Expression) (x r : E) (lo hi : ℤ)
    → lo ≡ neg_ℤ ONE → hi ≡ ONE
    → between (units_of_56 lo) (units_of_56 hi) ⊆ shown r
    → Within shown w a x → Within shown w (sine a) r
unfolding Lies value
sine_somewhere shown w a x r lo hi e f t h =
    record { deep = h.deep; inside = within_trans (all_hold w.depth (value w a) lo hi (value_proper w a) e f) t }

cosines_within : (n : ℕ) (i j : Interval) → IsProper i → i ⊆ j → cosine_of_degrees n i ⊆ cosine_of_degrees n j
unfolding cosine_of_degrees
cosines_within n i j p k = degree_sines.within n (quarter_proper i p)
    (sum_within k (within_refl (only (whole (pos 90)))))

pub cosine_holds : {E : Type 0} (shown : E → Interval) (w : World) (a : Expression) (x r : E) (from to lo hi : ℤ)
    → shown x ⊆ between (units_of_56 from) (units_of_56 to)
    → ((n : ℕ) → 40 ≤ n → cosine_of_degrees n (between (units_of_56 from) (units_of_56 to)) ⊆ between (units_of_56 lo)
    (units_of_56 hi))
    → between (units_of_56 lo) (units_of_56 hi) ⊆ shown r → Within shown w a x → Within shown w (cosine a) r
unfolding Lies value
cosine_holds shown w a x r from to lo hi s f t h =
    record {
      deep =
          h.deep;
      inside = within_trans
          (within_trans (cosines_within w.depth (value w a) _ (value_proper w a) (within_trans h.inside s))
          (f w.depth h.deep)) t;
    }

pub cosine_somewhere : {E : Type 0} (shown : E → Interval) (w : World) (a : Expression) (x r : E) (lo hi : ℤ)
    → lo ≡ neg_ℤ ONE → hi ≡ ONE
    → between (units_of_56 lo) (units_of_56 hi) ⊆ shown r
    → Within shown w a x → Within shown w (cosine a) r
unfolding Lies value
cosine_somewhere shown w a x r lo hi e f t h =
    record {
      deep = h.deep;
      inside = within_trans (all_cosines_hold w.depth (value w a) lo hi (value_proper w a) e f)
          t;
    }

pub tangent_holds : {E : Type 0} (shown : E → Interval) (w : World) (a : Expression) (r : E)
    → Within shown w (divide (sine a) (cosine a)) r
    → Within shown w (tangent a) r
unfolding Lies value tangent_of_degrees
tangent_holds shown w a r h = record { deep = h.deep; inside = h.inside }

-- ---- and keep their bounds
-- the endpoints of an enclosure keep its bound, since they lie within it and hold it
pub span_keeps : (w : ℕ) (b : Bound) (i : Interval) (lo hi : ℤ) → lo ≤ℤ hi
    → i ⊆ between (units_of_56 lo) (units_of_56 hi)
    → between (units_of_56 lo) (units_of_56 hi) ⊆ i
    → IsNarrow w b i → IsNarrow w b (between (units_of_56 lo) (units_of_56 hi))
unfolding IsNarrow
span_keeps w unbounded i lo hi o g h k = tt
span_keeps w (bounded a b s t) everything lo hi o g h k = absurd k
span_keeps w (bounded a b s t) (between c d) lo hi o g h k = record {
  ordered = order_at lo hi o;
  above = le_trans _ _ _ k.above h.endpoints.0;
  below = le_trans _ _ _ h.endpoints.1 k.below;
  close = le_trans _ _ _ h.endpoints.1 (le_trans _ _ _ k.close (plus_mono _ _ _ _ h.endpoints.0 (le_refl _)));
}

-- endpoints that keep a bound, in whole numbers
pub record AreKept (a b : ℤ) (s k w : ℕ) (from to : ℤ) : Type 0 where
  pub low : (a *ℤ pos (2 ^ 24)) ≤ℤ from
  pub high : to ≤ℤ (b *ℤ pos (2 ^ 24))
  pub order : from ≤ℤ to
  pub close : ((to -ℤ from) *ℤ pos (2 ^ 48)) ≤ℤ (pos (s * w) +ℤ pos (k * 2 ^ 40))

pub kept_of : (a b : ℤ) (s k w : ℕ) (from to : ℤ) → Spans a b s k w (units_of_56 from) (units_of_56 to)
    → AreKept a b s k w from to
unfolding plus
kept_of a b s k w from to h = record {
  low = omega (arith, ints, h.above.cross);
  high = omega (arith, ints, h.below.cross);
  order = omega (arith, ints, h.ordered.cross);
  close = omega (arith, ints, h.close.cross);
}

pub spans_of : (a b : ℤ) (s k w : ℕ) (lo hi : ℤ) → AreKept a b s k w lo hi
    → Spans a b s k w (units_of_56 lo) (units_of_56 hi)
unfolding plus
spans_of a b s k w lo hi h = record {
  ordered = record { cross = omega (arith, ints, h.order) };
  above = record { cross = omega (arith, ints, h.low) };
  below = record { cross = omega (arith, ints, h.high) };
  close = record { cross = omega (arith, ints, h.close) };
}

-- n is at most its quotient, rounded up, times the divisor
ceil_above : (n d : ℕ) → n ≤ ceil_div n d * suc d
ceil_above n d = omega arith

scaled_slope : (s t w : ℕ) → s ≤ t * 57 → s * w ≤ 57 * (t * w)
scaled_slope s t w h = omega (arith, mul-le-mul_right w h)

-- a 57th of the width, and 36 parts
close_57 : (s k w : ℕ) (from to lo hi : ℤ) → ((to -ℤ from) *ℤ pos (2 ^ 48)) ≤ℤ (pos (s * w) +ℤ pos (k * 2 ^ 40))
    → (pos 57 *ℤ (hi -ℤ lo)) ≤ℤ ((to -ℤ from) +ℤ pos 2052)
    → ((hi -ℤ lo) *ℤ pos (2 ^ 48)) ≤ℤ (pos (ceil_div s 56 * w) +ℤ pos ((ceil_div k 56 + 36 * 2 ^ 8) * 2 ^ 40))
close_57 s k w from to lo hi h n = by_quotients (ceil_div s 56) (ceil_div k 56) (ceil_above s 56) (ceil_above k 56)
  where
    by_quotients : (t m : ℕ) → s ≤ t * 57 → k ≤ m * 57
        → ((hi -ℤ lo) *ℤ pos (2 ^ 48)) ≤ℤ (pos (t * w) +ℤ pos ((m + 36 * 2 ^ 8) * 2 ^ 40))
    by_quotients t m p q = omega (arith, ints, h, n, scaled_slope s t w p, q)

in_range : (a b from to : ℤ) → (a *ℤ pos (2 ^ 24)) ≤ℤ from → to ≤ℤ (b *ℤ pos (2 ^ 24)) → from ≤ℤ to
    → (neg_ℤ (pos (range_size a b * 2 ^ 24)) ≤ℤ from) × (to ≤ℤ pos (range_size a b * 2 ^ 24))
in_range a b from to l u o = (omega (arith, ints, l), omega (arith, ints, u))

-- the endpoints lie within what values are
record LieWithin (e : Extent) (lo hi : ℤ) : Type 0 where
  above : (e.least *ℤ pos (2 ^ 24)) ≤ℤ lo
  below : hi ≤ℤ (e.greatest *ℤ pos (2 ^ 24))

-- how far from 0, by the size of the angle
size_low : (n : ℕ) (from to lo hi : ℤ) (t : Bool) → t ≡ nat_lt n eighth_turn → neg_ℤ (pos (n * 2 ^ 24)) ≤ℤ from
    → to ≤ℤ pos (n * 2 ^ 24)
    → IsNarrowSine from to lo hi
    → LieWithin (cond t (record { least = neg_ℤ (sine_to n); greatest = sine_to n })
    (record { least = neg_ℤ (pos (2 ^ 32)); greatest = pos (2 ^ 32) })) lo hi
size_low n from to lo hi false e l u h =
    record { above = omega (arith, ints, h.above); below = omega (arith, ints, h.below) }
size_low n from to lo hi true e l u h =
    let m = ltb-true n eighth_turn (sym e) in
    let a = h.small (pos (n * 2 ^ 24)) l u (omega (arith, ints, m)) in
    let c = ceil_above n 56 in
    record { above = omega (arith, ints, a.down, c); below = omega (arith, ints, a.up, c) }

-- how far from 1
crest_low : (v : ℤ) (n : ℕ) (lo : ℤ) → pos 0 ≤ℤ v → v ≤ℤ (pos n *ℤ pos (2 ^ 24)) → IsCrest v lo
    → (cosine_from n *ℤ pos (2 ^ 24)) ≤ℤ lo
crest_low v n lo z l h =
    let s : (v *ℤ v) ≤ℤ ((pos n *ℤ pos n) *ℤ pos (2 ^ 48)) = by_squares v (pos n) z l in
    let c = ceil_above (n * n) (6561 * 2 ^ 32 - 1) in
    omega (arith, ints, h.down, s, c)
  where
    by_squares : (v n : ℤ) → pos 0 ≤ℤ v → v ≤ℤ (n *ℤ pos (2 ^ 24)) → (v *ℤ v) ≤ℤ ((n *ℤ n) *ℤ pos (2 ^ 48))
    by_squares v n z l =
        le_by (v ∷ n ∷ []) ((lit (pos 0) ≼ at 0) ∷ (at 0 ≼ at 1 ⊗ lit (pos (2 ^ 24))) ∷ []) (at 0 ⊗ at 0)
        ((at 1 ⊗ at 1) ⊗ lit (pos (2 ^ 48)))
        (known 1 ⊠ (known 1 ⊞ naturally 2 ⊠ known 0)) refl (z, (l, tt))

least_low : (n : ℕ) (from to lo hi : ℤ) (t : Bool) → t ≡ nat_lt n eighth_turn → neg_ℤ (pos (n * 2 ^ 24)) ≤ℤ from
    → to ≤ℤ pos (n * 2 ^ 24)
    → IsNarrowCosine from to lo hi
    → ((cond t (cosine_from n) (neg_ℤ (pos (2 ^ 32)))) *ℤ pos (2 ^ 24)) ≤ℤ lo
least_low n from to lo hi false e l u h = omega (arith, ints, h.above)
least_low n from to lo hi true e l u h =
    let m = ltb-true n eighth_turn (sym e) in
    crest_low (pos (n * 2 ^ 24)) n lo (omega (arith, ints)) (omega (arith, ints))
    (h.crest (pos (n * 2 ^ 24)) l u (omega (arith, ints, m)))

-- inside an octant
rising_within : (f t n m : ℕ) (lo hi : ℤ) → n * 2 ^ 24 ≤ f → t ≤ m * 2 ^ 24 → IsRising (pos f) (pos t) lo hi
    → LieWithin (record { least = sine_from n; greatest = sine_to m }) lo hi
rising_within f t n m lo hi l u h =
    let c = ceil_above m 56 in
    record { above = omega (arith, ints, l, h.down); below = omega (arith, ints, u, h.up, c) }

part_within : (j f t n m : ℕ) (lo hi : ℤ) → n * 2 ^ 24 ≤ f → t ≤ m * 2 ^ 24 → neg_ℤ ONE ≤ℤ lo → hi ≤ℤ ONE
    → IsPart j f t lo hi
    → LieWithin (octant_extent j n m) lo hi
unfolding IsPart
part_within zero f t n m lo hi l u a b h = rising_within f t n m lo hi l u h
part_within (suc zero) f t n m lo hi l u a b h = record {
  above = crest_low _ (eighth_turn - n) lo (omega (arith, ints)) (omega (arith, ints, l)) h;
  below = omega (arith, ints, b);
}
part_within (suc (suc zero)) f t n m lo hi l u a b h = record
    { above = crest_low _ m lo (omega (arith, ints)) (omega (arith, ints, u)) h; below = omega (arith, ints, b) }
part_within (suc (suc (suc zero))) f t n m lo hi l u a b h =
    rising_within (OCTANT - t) (OCTANT - f) (eighth_turn - m) (eighth_turn - n) lo hi (omega (arith, u))
    (omega (arith, l)) h
part_within (suc (suc (suc (suc j)))) f t n m lo hi l u a b h = turned_within _ lo hi
    (part_within j f t n m (neg_ℤ hi) (neg_ℤ lo) l u (omega (arith, ints, b)) (omega (arith, ints, a)) h)
  where
    turned_within : (e : Extent) (lo hi : ℤ) → LieWithin e (neg_ℤ hi) (neg_ℤ lo) → LieWithin (opposites e) lo hi
    turned_within e lo hi w = record { above = omega (arith, ints, w.below); below = omega (arith, ints, w.above) }

both : (p q : Bool) → (p && q) ≡ true → (p ≡ true) × (q ≡ true)
both true q e = (refl, e)
both false q e = (e, cc)

test_below : (a b : ℤ) → lt_z a b ≡ true → a <ℤ b
test_below a b e = record { lt = rw e tt }

inside_of : (k a b from to : ℤ) → lie_inside k a b ≡ true → (a *ℤ pos (2 ^ 24)) ≤ℤ from → to ≤ℤ (b *ℤ pos (2 ^ 24))
    → IsInside k from to
inside_of k a b from to e l u =
    let t = both (lt_z (k *ℤ pos eighth_turn) a) (lt_z b (k *ℤ pos eighth_turn +ℤ pos eighth_turn)) e in
    let p = test_below (k *ℤ pos eighth_turn) a t.0 in
    let q = test_below b (k *ℤ pos eighth_turn +ℤ pos eighth_turn) t.1 in
    record { above = omega (arith, ints, p, l); below = omega (arith, ints, q, u) }

inside_within : (k a b from to lo hi : ℤ) → lie_inside k a b ≡ true → (a *ℤ pos (2 ^ 24)) ≤ℤ from
    → to ≤ℤ (b *ℤ pos (2 ^ 24)) → from ≤ℤ to → neg_ℤ ONE ≤ℤ lo
    → hi ≤ℤ ONE
    → IsPart (octant_of_turn k) (unsigned_abs (from -ℤ k *ℤ pos OCTANT)) (unsigned_abs (to -ℤ k *ℤ pos OCTANT)) lo hi
    → LieWithin (inside_extent k a b) lo hi
inside_within k a b from to lo hi e l u o x y h =
    let t = both (lt_z (k *ℤ pos eighth_turn) a) (lt_z b (k *ℤ pos eighth_turn +ℤ pos eighth_turn)) e in
    let p = test_below (k *ℤ pos eighth_turn) a t.0 in
    let q = test_below b (k *ℤ pos eighth_turn +ℤ pos eighth_turn) t.1 in
    let i = inside_of k a b from to e l u in
    part_within (octant_of_turn k) _ _ (unsigned_abs (a -ℤ k *ℤ pos eighth_turn))
    (unsigned_abs (b -ℤ k *ℤ pos eighth_turn)) lo hi
    (omega (arith, ints, p, l, i.above)) (omega (arith, ints, q, u, i.above, o, p)) x y h

sine_within : (a b from to lo hi : ℤ) (t : Bool) → t ≡ lie_inside (octant_at a) a b → (a *ℤ pos (2 ^ 24)) ≤ℤ from
    → to ≤ℤ (b *ℤ pos (2 ^ 24)) → from ≤ℤ to
    → range_size a b < 2 ^ 95 → IsNarrowSine from to lo hi
    → LieWithin (cond t (inside_extent (octant_at a) a b) (sine_near_none (range_size a b))) lo hi
sine_within a b from to lo hi false e l u o m h = let r = in_range a b from to l u o in
    size_low (range_size a b) from to lo hi _ refl r.0 r.1 h
sine_within a b from to lo hi true e l u o m h =
    let r = in_range a b from to l u o in
    inside_within (octant_at a) a b from to lo hi (sym e) l u o h.above h.below
    (h.inside (omega (arith, ints, m, r.0)) (omega (arith, ints, m, r.1)) (octant_at a)
    (inside_of (octant_at a) a b from to (sym e) l u))

cosine_within : (a b from to lo hi : ℤ) (t : Bool) → t ≡ lie_inside (octant_at (quarter_later a)) (quarter_later a)
    (quarter_later b)
    → (a *ℤ pos (2 ^ 24)) ≤ℤ from → to ≤ℤ (b *ℤ pos (2 ^ 24)) → from ≤ℤ to → range_size a b < 2 ^ 95
    → IsNarrowCosine from to lo hi
    → LieWithin (cond t (inside_extent (octant_at (quarter_later a)) (quarter_later a) (quarter_later b))
    (cosine_near_none (range_size a b))) lo hi
cosine_within a b from to lo hi false e l u o m h =
    let r = in_range a b from to l u o in
    record { above = least_low (range_size a b) from to lo hi _ refl r.0 r.1 h; below = omega (arith, ints, h.below) }
cosine_within a b from to lo hi true e l u o m h =
    let r = in_range a b from to l u o in
    let k = octant_at (quarter_later a) in
    let l' : (quarter_later a *ℤ pos (2 ^ 24)) ≤ℤ (from +ℤ QUARTER) = omega (arith, ints, l) in
    let u' : (to +ℤ QUARTER) ≤ℤ (quarter_later b *ℤ pos (2 ^ 24)) = omega (arith, ints, u) in
    inside_within k (quarter_later a) (quarter_later b) _ _ lo hi (sym e) l' u' (omega (arith, ints, o)) h.above h.below
    (h.inside (omega (arith, ints, m, r.0)) (omega (arith, ints, m, r.1)) k
    (inside_of k (quarter_later a) (quarter_later b) _ _ (sym e) l' u'))

limited_keeps : (t : Bool) (a b : ℤ) (s k w : ℕ) (lo hi : ℤ) → (t ≡ true → AreKept a b s k w lo hi)
    → IsNarrow w (limited t (bounded a b s k)) (between (units_of_56 lo) (units_of_56 hi))
unfolding IsNarrow
limited_keeps false a b s k w lo hi h = tt
limited_keeps true a b s k w lo hi h = spans_of a b s k w lo hi (h refl)

sine_kept : (w : ℕ) (b : Bound) (from to lo hi : ℤ) → lo ≤ℤ hi → IsNarrowSine from to lo hi
    → IsNarrow w b (between (units_of_56 from) (units_of_56 to))
    → IsNarrow w (sine_spans b) (between (units_of_56 lo) (units_of_56 hi))
unfolding sine_spans IsNarrow
sine_kept w unbounded from to lo hi o h k = tt
sine_kept w (bounded a b s t) from to lo hi o h k =
    let e = kept_of a b s t w from to k in
    let r = in_range a b from to e.low e.high e.order in
    limited_keeps _ _ _ _ _ w lo hi (λ q.
    let m = ltb-true (range_size a b) (2 ^ 95) q in
    let z = sine_within a b from to lo hi _ refl e.low e.high e.order m h in
    record {
      low = z.above;
      high = z.below;
      order = o;
      close = close_57 s t w from to lo hi e.close
          (h.narrow (omega (arith, ints, m, r.0)) (omega (arith, ints, m, r.1)));
    })

cosine_kept : (w : ℕ) (b : Bound) (from to lo hi : ℤ) → lo ≤ℤ hi → IsNarrowCosine from to lo hi
    → IsNarrow w b (between (units_of_56 from) (units_of_56 to))
    → IsNarrow w (cosine_spans b) (between (units_of_56 lo) (units_of_56 hi))
unfolding cosine_spans IsNarrow
cosine_kept w unbounded from to lo hi o h k = tt
cosine_kept w (bounded a b s t) from to lo hi o h k =
    let e = kept_of a b s t w from to k in
    let r = in_range a b from to e.low e.high e.order in
    limited_keeps _ _ _ _ _ w lo hi (λ q.
    let m = ltb-true (range_size a b) (2 ^ 95) q in
    let z = cosine_within a b from to lo hi _ refl e.low e.high e.order m h in
    record {
      low = z.above;
      high = z.below;
      order = o;
      close = close_57 s t w from to lo hi e.close
          (h.narrow (omega (arith, ints, m, r.0)) (omega (arith, ints, m, r.1)));
    })

-- an operation on endpoints that keeps their bound, as one of enclosures
pub sine_keeps : {E : Type 0} (shown : E → Interval) (l : Limits) (r : Reach) (a : Expression) (x y : E)
    (from to lo hi : ℤ) → from ≤ℤ to → lo ≤ℤ hi
    → shown x ⊆ between (units_of_56 from) (units_of_56 to) → between (units_of_56 from) (units_of_56 to) ⊆ shown x
    → IsNarrowSine from to lo hi → ((w : ℕ) (b : Bound) → IsNarrow w b (between (units_of_56 lo) (units_of_56 hi))
    → IsNarrow w (spanned_bound l b) (shown y))
    → Narrow shown l r a x → Narrow shown l r (sine a) y
unfolding Keeps bound_of
sine_keeps shown l r a x y from to lo hi o p g h n f k =
    record {
      kept =
          f r.width _ (sine_kept r.width (bound_of l r.bounds a) from to lo hi p n
          (span_keeps r.width (bound_of l r.bounds a) (shown x) from to o g h k.kept));
    }

pub cosine_keeps : {E : Type 0} (shown : E → Interval) (l : Limits) (r : Reach) (a : Expression) (x y : E)
    (from to lo hi : ℤ) → from ≤ℤ to → lo ≤ℤ hi
    → shown x ⊆ between (units_of_56 from) (units_of_56 to) → between (units_of_56 from) (units_of_56 to) ⊆ shown x
    → IsNarrowCosine from to lo hi → ((w : ℕ) (b : Bound) → IsNarrow w b (between (units_of_56 lo) (units_of_56 hi))
    → IsNarrow w (spanned_bound l b) (shown y))
    → Narrow shown l r a x → Narrow shown l r (cosine a) y
unfolding Keeps bound_of
cosine_keeps shown l r a x y from to lo hi o p g h n f k =
    record {
      kept =
          f r.width _ (cosine_kept r.width (bound_of l r.bounds a) from to lo hi p n
          (span_keeps r.width (bound_of l r.bounds a) (shown x) from to o g h k.kept));
    }

-- of every number no width is known
sine_of_all : (w : ℕ) (l : Limits) (b : Bound) (i : Interval) → IsNarrow w b everything
    → IsNarrow w (spanned_bound l (sine_spans b)) i
unfolding sine_spans spanned_bound IsNarrow
sine_of_all w l unbounded i h = tt
sine_of_all w l (bounded a b s k) i h = absurd h

cosine_of_all : (w : ℕ) (l : Limits) (b : Bound) (i : Interval) → IsNarrow w b everything
    → IsNarrow w (spanned_bound l (cosine_spans b)) i
unfolding cosine_spans spanned_bound IsNarrow
cosine_of_all w l unbounded i h = tt
cosine_of_all w l (bounded a b s k) i h = absurd h

pub sine_keeps_all : {E : Type 0} (shown : E → Interval) (l : Limits) (r : Reach) (a : Expression) (x y : E)
    → shown x ≡ everything → Narrow shown l r a x
    → Narrow shown l r (sine a) y
unfolding Keeps bound_of
sine_keeps_all shown l r a x y e k = record {
  kept = sine_of_all r.width l (bound_of l r.bounds a) (shown y)
      (rw e at k.kept);
}

pub cosine_keeps_all : {E : Type 0} (shown : E → Interval) (l : Limits) (r : Reach) (a : Expression) (x y : E)
    → shown x ≡ everything → Narrow shown l r a x
    → Narrow shown l r (cosine a) y
unfolding Keeps bound_of
cosine_keeps_all shown l r a x y e k = record {
  kept = cosine_of_all r.width l (bound_of l r.bounds a) (shown y)
      (rw e at k.kept);
}

pub tangent_keeps : {E : Type 0} (shown : E → Interval) (l : Limits) (r : Reach) (a : Expression) (k : E)
    → Narrow shown l r (divide (sine a) (cosine a)) k
    → Narrow shown l r (tangent a) k
unfolding Keeps bound_of
tangent_keeps shown l r a k h = record { kept = h.kept }

-- Endpoints at a scale that hold the operations, and that keep a bound. A bound speaks of fractions. `AreKept` says it
-- in whole numbers, and the two lead to each other by multiplying out (`kept_of`, `spans_of`): so that an operation
-- keeps its bound is arithmetic on whole numbers. A bound is promised below a limit alone, below which the endpoints
-- fit their word (`limited_narrow`); beyond it there is nothing to show.
use Rattle.interval_endpoints.specs.Scales.{Scale, coarse, fine, at_scale, unit, limits_on, span, grain, word}
use Rattle.interval_endpoints.specs.Scales.{most_size}
use Rattle.std.proofs.Common.{◌≡◌, ℕ, ◌+◌, ◌*◌, ◌^◌, ◌<◌, refl, arith, Bool, true, false, ◌&&◌, ℤ, pos, ◌+ℤ◌, ◌*ℤ◌}
use Rattle.std.proofs.Common.{◌-ℤ◌, ◌≤ℤ◌, SFits}
use Rattle.std.proofs.lemmas.Int.{ints}
use Rattle.std.proofs.lemmas.Bool.{ltb-true}
use Rattle.book_model.specs.Fraction.{plus}
use Rattle.book_model.specs.Interval.{Interval, everything, between, ◌⊆◌, sum}
use Rattle.book_model.proofs.Intervals.{within_trans, within_everything}
use Rattle.book_model.specs.numbers.Bounds.{Bound, unbounded, bounded, range_size, limited, integer_bound, sum_bound}
use Rattle.book_model.specs.numbers.Bounds.{Spans, IsNarrow}
use Rattle.interval_endpoints.specs.Rounding.{ShowsEndpoints, fitting, too_large}

-- endpoints that keep a bound, in whole numbers
pub record AreKept (scale : Scale) (a b : ℤ) (s k w : ℕ) (lo hi : ℤ) : Type 0 where
  pub ordered : lo ≤ℤ hi
  pub above : (a *ℤ (span scale)) ≤ℤ lo
  pub below : hi ≤ℤ (b *ℤ (span scale))
  pub close : ((hi -ℤ lo) *ℤ (grain scale)) ≤ℤ pos (s * w + k * 2 ^ 40)

-- a kept bound, in whole numbers
pub kept_of : (scale : Scale) → (a b : ℤ) (s k w : ℕ) (lo hi : ℤ)
    → Spans a b s k w (at_scale scale lo) (at_scale scale hi) → AreKept scale a b s k w lo hi
unfolding plus
-- a kept bound, in whole numbers
kept_of coarse a b s k w lo hi h = record {
  ordered = omega (arith, ints, h.ordered.cross);
  above = omega (arith, ints, h.above.cross);
  below = omega (arith, ints, h.below.cross);
  close = omega (arith, ints, h.close.cross);
}
kept_of fine a b s k w lo hi h = record {
  ordered = omega (arith, ints, h.ordered.cross);
  above = omega (arith, ints, h.above.cross);
  below = omega (arith, ints, h.below.cross);
  close = omega (arith, ints, h.close.cross);
}

-- a kept bound, from whole numbers
pub spans_of : (scale : Scale) → (a b : ℤ) (s k w : ℕ) (lo hi : ℤ) → AreKept scale a b s k w lo hi
    → Spans a b s k w (at_scale scale lo) (at_scale scale hi)
unfolding plus
-- a kept bound, from whole numbers
spans_of coarse a b s k w lo hi h = record {
  ordered = record { cross = omega (arith, ints, h.ordered) };
  above = record { cross = omega (arith, ints, h.above) };
  below = record { cross = omega (arith, ints, h.below) };
  close = record { cross = omega (arith, ints, h.close) };
}
spans_of fine a b s k w lo hi h = record {
  ordered = record { cross = omega (arith, ints, h.ordered) };
  above = record { cross = omega (arith, ints, h.above) };
  below = record { cross = omega (arith, ints, h.below) };
  close = record { cross = omega (arith, ints, h.close) };
}

-- what is shown of two endpoints in 64 bits holds the interval between them
pub kept_within : (scale : Scale) → (lo hi : ℤ) (i : Interval) → ShowsEndpoints scale lo hi i
    → between (at_scale scale lo) (at_scale scale hi) ⊆ i
kept_within coarse lo hi (between a b) fitting =
    record { endpoints = (record { cross = omega (arith, ints) }, record { cross = omega (arith, ints) }) }
kept_within fine lo hi (between a b) fitting =
    record { endpoints = (record { cross = omega (arith, ints) }, record { cross = omega (arith, ints) }) }
kept_within coarse lo hi everything (too_large n) = within_everything _
kept_within fine lo hi everything (too_large n) = within_everything _

-- two endpoints in 64 bits are shown as they are
pub keeps_both : (scale : Scale) → (lo hi a b : ℤ) → a ≡ lo → b ≡ hi
    → ShowsEndpoints scale lo hi (between (at_scale scale a) (at_scale scale b))
keeps_both scale lo hi a b e f = rw (e, f) fitting

-- numbers below 2^26 in size fit
fits_size : (scale : Scale) → (a b lo : ℤ) → range_size a b < (most_size scale) → (a *ℤ (span scale)) ≤ℤ lo
    → lo ≤ℤ (b *ℤ (span scale)) → SFits (word scale) lo
fits_size coarse a b lo h p q = omega (arith, ints)
fits_size fine a b lo h p q = omega (arith, ints)

-- what is shown of two endpoints in 64 bits keeps a bound that the endpoints keep, where the limits hold
pub limited_narrow : (scale : Scale) → (t : Bool) (a b : ℤ) (s k w : ℕ) (lo hi : ℤ) (i : Interval)
    → (t ≡ true → range_size a b < (most_size scale))
    → AreKept scale a b s k w lo hi → ShowsEndpoints scale lo hi i → IsNarrow w (limited t (bounded a b s k)) i
unfolding IsNarrow
limited_narrow coarse false a b s k w lo hi i l h j = tt
limited_narrow fine false a b s k w lo hi i l h j = tt
limited_narrow coarse true a b s k w lo hi (between c d) l h fitting = spans_of coarse a b s k w lo hi h
limited_narrow fine true a b s k w lo hi (between c d) l h fitting = spans_of fine a b s k w lo hi h
limited_narrow coarse true a b s k w lo hi everything l h (too_large n) =
    absurd (n (fits_size coarse a b lo (l refl) h.above (omega (arith, ints, h.ordered, h.below)))
    (fits_size coarse a b hi (l refl) (omega (arith, ints, h.ordered, h.above)) h.below))
limited_narrow fine true a b s k w lo hi everything l h (too_large n) =
    absurd (n (fits_size fine a b lo (l refl) h.above (omega (arith, ints, h.ordered, h.below)))
    (fits_size fine a b hi (l refl) (omega (arith, ints, h.ordered, h.above)) h.below))

-- both parts of a test hold
pub both : (p q : Bool) → (p && q) ≡ true → (p ≡ true) × (q ≡ true)
both true q e = (refl, e)
both false q e = (e, cc)

-- ---- whole numbers
-- the endpoints of a whole number keep its bound
pub int_narrow : (scale : Scale) → (w : ℕ) (n at : ℤ) (i : Interval) → at ≡ n *ℤ (unit scale)
    → ShowsEndpoints scale at at i
    → IsNarrow w (integer_bound (limits_on scale) n) i
unfolding integer_bound
int_narrow coarse w n at i e h =
    limited_narrow coarse _ _ _ _ _ _ at at i (λ t. let l = ltb-true _ _ t in omega (arith, ints))
    (record {
      ordered = omega (arith, ints);
      above = omega (arith, ints);
      below = omega (arith, ints);
      close = omega (arith, ints);
    }) h
int_narrow fine w n at i e h =
    limited_narrow fine _ _ _ _ _ _ at at i (λ t. let l = ltb-true _ _ t in omega (arith, ints))
    (record {
      ordered = omega (arith, ints);
      above = omega (arith, ints);
      below = omega (arith, ints);
      close = omega (arith, ints);
    }) h

-- ---- sums
-- the endpoints of a sum hold it
pub sum_encloses : (scale : Scale) → (a b c d lo hi : ℤ) (i : Interval) → lo ≡ a +ℤ c → hi ≡ b +ℤ d
    → ShowsEndpoints scale lo hi i
    → sum (between (at_scale scale a) (at_scale scale b)) (between (at_scale scale c) (at_scale scale d)) ⊆ i
unfolding sum plus
-- the endpoints of a sum hold it
sum_encloses coarse a b c d lo hi i e f h =
    within_trans
    (record { endpoints = (record { cross = omega (arith, ints) }, record { cross = omega (arith, ints) }) })
    (kept_within coarse lo hi i h)
sum_encloses fine a b c d lo hi i e f h =
    within_trans
    (record { endpoints = (record { cross = omega (arith, ints) }, record { cross = omega (arith, ints) }) })
    (kept_within fine lo hi i h)

-- sums of endpoints keep the sum of their bounds
sum_kept : (scale : Scale) → (a b c d : ℤ) (s k t m w : ℕ) (x y x' y' lo hi : ℤ) → lo ≡ x +ℤ x' → hi ≡ y +ℤ y'
    → AreKept scale a b s k w x y
    → AreKept scale c d t m w x' y' → AreKept scale (a +ℤ c) (b +ℤ d) (s + t) (k + m) w lo hi
-- sums of endpoints keep the sum of their bounds
sum_kept coarse a b c d s k t m w x y x' y' lo hi e f h j = record {
  ordered = omega (arith, ints);
  above = omega (arith, ints);
  below = omega (arith, ints);
  close = omega (arith, ints);
}
sum_kept fine a b c d s k t m w x y x' y' lo hi e f h j = record {
  ordered = omega (arith, ints);
  above = omega (arith, ints);
  below = omega (arith, ints);
  close = omega (arith, ints);
}

-- the endpoints of a sum keep its bound
pub sum_narrow : (scale : Scale) → (w : ℕ) (p q : Bound) (x y x' y' lo hi : ℤ) (i : Interval) → lo ≡ x +ℤ x'
    → hi ≡ y +ℤ y' → ShowsEndpoints scale lo hi i
    → IsNarrow w p (between (at_scale scale x) (at_scale scale y))
    → IsNarrow w q (between (at_scale scale x') (at_scale scale y'))
    → IsNarrow w (sum_bound (limits_on scale) p q) i
unfolding sum_bound IsNarrow
sum_narrow coarse w unbounded q x y x' y' lo hi i e f v h j = tt
sum_narrow fine w unbounded q x y x' y' lo hi i e f v h j = tt
sum_narrow coarse w (bounded a b s k) unbounded x y x' y' lo hi i e f v h j = tt
sum_narrow fine w (bounded a b s k) unbounded x y x' y' lo hi i e f v h j = tt
sum_narrow coarse w (bounded a b s k) (bounded c d t m) x y x' y' lo hi i e f v h j =
    limited_narrow coarse _ _ _ _ _ _ lo hi i (λ l. ltb-true _ _ l)
    (sum_kept coarse a b c d s k t m w x y x' y' lo hi e f (kept_of coarse _ _ _ _ _ _ _ h)
    (kept_of coarse _ _ _ _ _ _ _ j)) v
sum_narrow fine w (bounded a b s k) (bounded c d t m) x y x' y' lo hi i e f v h j =
    limited_narrow fine _ _ _ _ _ _ lo hi i (λ l. ltb-true _ _ l)
    (sum_kept fine a b c d s k t m w x y x' y' lo hi e f (kept_of fine _ _ _ _ _ _ _ h) (kept_of fine _ _ _ _ _ _ _ j))
    v

-- endpoints that lie within sums of endpoints keep the sum of their bounds
sum_kept_inner : (scale : Scale) → (a b c d : ℤ) (s k t m w : ℕ) (x y x' y' lo hi : ℤ) → lo ≤ℤ hi → (x +ℤ x') ≤ℤ lo
    → hi ≤ℤ (y +ℤ y')
    → AreKept scale a b s k w x y → AreKept scale c d t m w x' y' → AreKept scale (a +ℤ c) (b +ℤ d) (s + t)
    (k + m) w lo hi
sum_kept_inner coarse a b c d s k t m w x y x' y' lo hi o e f h j = record {
  ordered = o;
  above = omega (arith, ints, e, h.above, j.above);
  below = omega (arith, ints, f, h.below, j.below);
  close = omega (arith, ints, e, f, h.close, j.close);
}
sum_kept_inner fine a b c d s k t m w x y x' y' lo hi o e f h j = record {
  ordered = o;
  above = omega (arith, ints, e, h.above, j.above);
  below = omega (arith, ints, f, h.below, j.below);
  close = omega (arith, ints, e, f, h.close, j.close);
}

pub sum_narrow_inner : (scale : Scale) → (w : ℕ) (p q : Bound) (x y x' y' lo hi : ℤ) (i : Interval) → lo ≤ℤ hi
    → (x +ℤ x') ≤ℤ lo → hi ≤ℤ (y +ℤ y')
    → ShowsEndpoints scale lo hi i → IsNarrow w p (between (at_scale scale x) (at_scale scale y))
    → IsNarrow w q (between (at_scale scale x') (at_scale scale y'))
    → IsNarrow w (sum_bound (limits_on scale) p q) i
unfolding sum_bound IsNarrow
sum_narrow_inner coarse w unbounded q x y x' y' lo hi i o e f v h j = tt
sum_narrow_inner fine w unbounded q x y x' y' lo hi i o e f v h j = tt
sum_narrow_inner coarse w (bounded a b s k) unbounded x y x' y' lo hi i o e f v h j = tt
sum_narrow_inner fine w (bounded a b s k) unbounded x y x' y' lo hi i o e f v h j = tt
sum_narrow_inner coarse w (bounded a b s k) (bounded c d t m) x y x' y' lo hi i o e f v h j =
    limited_narrow coarse _ _ _ _ _ _ lo hi i (λ l. ltb-true _ _ l)
    (sum_kept_inner coarse a b c d s k t m w x y x' y' lo hi o e f (kept_of coarse _ _ _ _ _ _ _ h)
    (kept_of coarse _ _ _ _ _ _ _ j)) v
sum_narrow_inner fine w (bounded a b s k) (bounded c d t m) x y x' y' lo hi i o e f v h j =
    limited_narrow fine _ _ _ _ _ _ lo hi i (λ l. ltb-true _ _ l)
    (sum_kept_inner fine a b c d s k t m w x y x' y' lo hi o e f (kept_of fine _ _ _ _ _ _ _ h)
    (kept_of fine _ _ _ _ _ _ _ j)) v

-- where an operand is everything, so may the sum be
pub sum_first : (scale : Scale) → (w : ℕ) (x y : Bound) (i : Interval) → IsNarrow w x everything
    → IsNarrow w (sum_bound (limits_on scale) x y) i
unfolding sum_bound IsNarrow
sum_first scale w unbounded y i h = tt
sum_first scale w (bounded a b s k) y i h = absurd h

-- the same where the second is everything
pub sum_second : (scale : Scale) → (w : ℕ) (x y : Bound) (i : Interval) → IsNarrow w y everything
    → IsNarrow w (sum_bound (limits_on scale) x y) i
unfolding sum_bound IsNarrow
sum_second scale w unbounded y i h = tt
sum_second scale w (bounded a b s k) unbounded i h = tt
sum_second scale w (bounded a b s k) (bounded c d t m) i h = absurd h

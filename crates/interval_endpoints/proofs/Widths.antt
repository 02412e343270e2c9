-- Endpoints at a scale that keep the bounds of differences, opposites, the lesser and the greater, remainders, and of
-- endpoints in units of 2^-56. Each operation has a lemma in whole numbers (`.._kept`), by linear arithmetic at each
-- scale, and one over bounds (`.._narrow`), by cases of these; and where an argument is everything, none is promised
-- (`.._of_all`).
use Rattle.interval_endpoints.specs.Scales.{Scale, coarse, fine, at_scale, unit, limits_on, slack, finer_units}
use Rattle.interval_endpoints.specs.Scales.{most_size}
use Rattle.std.proofs.Common.{◌≡◌, ℕ, suc, ◌+◌, ◌*◌, ◌-◌, ◌^◌, ◌≤◌, ◌<◌, max, refl, sym, arith, Bool, true, false}
use Rattle.std.proofs.Common.{neg_ℤ, ℤ, pos, ◌+ℤ◌, ◌*ℤ◌, ◌-ℤ◌, ◌≤ℤ◌, ◌<ℤ◌, int_eq, Some}
use Rattle.std.specs.Int.{int_max, int_min}
use Rattle.std.proofs.lemmas.Int.{ints, clamps, by_lt_z}
use Rattle.std.proofs.lemmas.Bool.{ltb-true}
use Rattle.std.proofs.Math.Nat.{mul-le-mul_right}
use Rattle.book_model.specs.Fraction.{◌≤F◌, ◌<F◌, plus}
use Rattle.book_model.specs.Interval.{Interval, everything, between, ◌⊆◌}
use Rattle.book_model.proofs.IntLaws.{mul_add}
use Rattle.book_model.proofs.Intervals.{within_trans}
use Rattle.book_model.specs.numbers.Bounds.{Bound, unbounded, bounded, range_size, difference_bound, negated_bound}
use Rattle.book_model.specs.numbers.Bounds.{minimum_bound, maximum_bound, remainder_bound, spanned_bound, Spans}
use Rattle.book_model.specs.numbers.Bounds.{IsNarrow}
use Rattle.book_model.specs.programs.Leading.{units_of_56}
use Rattle.book_model.specs.programs.Programs.{multiples, cell_at, cell_of, threshold, when}
use Rattle.book_model.proofs.Cells.{cells_cut}
use Rattle.int_division.specs.Rounding.{IsFloor, IsCeiling}
use Rattle.interval_endpoints.specs.Rounding.{ShowsEndpoints}
use Rattle.interval_endpoints.proofs.Keeping.{AreKept, kept_of, spans_of, kept_within, limited_narrow}
use Rattle.interval_endpoints.proofs.Testing.{eq_no}

-- ---- differences
difference_kept : (scale : Scale) → (a b c d : ℤ) (s k t m w : ℕ) (x y x' y' lo hi : ℤ) → lo ≡ x -ℤ y' → hi ≡ y -ℤ x'
    → AreKept scale a b s k w x y
    → AreKept scale c d t m w x' y' → AreKept scale (a -ℤ d) (b -ℤ c) (s + t) (k + m) w lo hi
difference_kept coarse a b c d s k t m w x y x' y' lo hi e f h j = record {
  ordered = omega (arith, ints);
  above = omega (arith, ints);
  below = omega (arith, ints);
  close = omega (arith, ints);
}
difference_kept fine a b c d s k t m w x y x' y' lo hi e f h j = record {
  ordered = omega (arith, ints);
  above = omega (arith, ints);
  below = omega (arith, ints);
  close = omega (arith, ints);
}

pub difference_narrow : (scale : Scale) → (w : ℕ) (p q : Bound) (x y x' y' lo hi : ℤ) (i : Interval) → lo ≡ x -ℤ y'
    → hi ≡ y -ℤ x' → ShowsEndpoints scale lo hi i
    → IsNarrow w p (between (at_scale scale x) (at_scale scale y))
    → IsNarrow w q (between (at_scale scale x') (at_scale scale y'))
    → IsNarrow w (difference_bound (limits_on scale) p q) i
unfolding difference_bound IsNarrow
difference_narrow coarse w unbounded q x y x' y' lo hi i e f v h j = tt
difference_narrow fine w unbounded q x y x' y' lo hi i e f v h j = tt
difference_narrow coarse w (bounded a b s k) unbounded x y x' y' lo hi i e f v h j = tt
difference_narrow fine w (bounded a b s k) unbounded x y x' y' lo hi i e f v h j = tt
difference_narrow coarse w (bounded a b s k) (bounded c d t m) x y x' y' lo hi i e f v h j =
    limited_narrow coarse _ _ _ _ _ _ lo hi i (λ l. ltb-true _ _ l)
    (difference_kept coarse a b c d s k t m w x y x' y' lo hi e f (kept_of coarse _ _ _ _ _ _ _ h)
    (kept_of coarse _ _ _ _ _ _ _ j)) v
difference_narrow fine w (bounded a b s k) (bounded c d t m) x y x' y' lo hi i e f v h j =
    limited_narrow fine _ _ _ _ _ _ lo hi i (λ l. ltb-true _ _ l)
    (difference_kept fine a b c d s k t m w x y x' y' lo hi e f (kept_of fine _ _ _ _ _ _ _ h)
    (kept_of fine _ _ _ _ _ _ _ j)) v

pub difference_of_all : (scale : Scale) → (w : ℕ) (x y : Bound) (i : Interval) → IsNarrow w x everything
    → IsNarrow w (difference_bound (limits_on scale) x y) i
unfolding difference_bound IsNarrow
difference_of_all scale w unbounded y i h = tt
difference_of_all scale w (bounded a b s k) y i h = absurd h

pub difference_from_all : (scale : Scale) → (w : ℕ) (x y : Bound) (i : Interval) → IsNarrow w y everything
    → IsNarrow w (difference_bound (limits_on scale) x y) i
unfolding difference_bound IsNarrow
difference_from_all scale w unbounded y i h = tt
difference_from_all scale w (bounded a b s k) unbounded i h = tt
difference_from_all scale w (bounded a b s k) (bounded c d t m) i h = absurd h

-- ---- opposites
negated_kept : (scale : Scale) → (a b : ℤ) (s k w : ℕ) (x y lo hi : ℤ) → lo ≡ neg_ℤ y → hi ≡ neg_ℤ x
    → AreKept scale a b s k w x y
    → AreKept scale (neg_ℤ b) (neg_ℤ a) s k w lo hi
negated_kept coarse a b s k w x y lo hi e f h = record {
  ordered = omega (arith, ints, e, f, h.ordered);
  above = omega (arith, ints, e, h.below);
  below = omega (arith, ints, f, h.above);
  close = omega (arith, ints, e, f, h.close);
}
negated_kept fine a b s k w x y lo hi e f h = record {
  ordered = omega (arith, ints, e, f, h.ordered);
  above = omega (arith, ints, e, h.below);
  below = omega (arith, ints, f, h.above);
  close = omega (arith, ints, e, f, h.close);
}

pub negated_narrow : (scale : Scale) → (w : ℕ) (p : Bound) (x y lo hi : ℤ) (i : Interval) → lo ≡ neg_ℤ y → hi ≡ neg_ℤ x
    → ShowsEndpoints scale lo hi i
    → IsNarrow w p (between (at_scale scale x) (at_scale scale y)) → IsNarrow w (negated_bound (limits_on scale) p) i
unfolding negated_bound IsNarrow
negated_narrow coarse w unbounded x y lo hi i e f v h = tt
negated_narrow fine w unbounded x y lo hi i e f v h = tt
negated_narrow coarse w (bounded a b s k) x y lo hi i e f v h = limited_narrow coarse _ _ _ _ _ _ lo hi i
    (λ l. ltb-true _ _ l)
    (negated_kept coarse a b s k w x y lo hi e f (kept_of coarse _ _ _ _ _ _ _ h)) v
negated_narrow fine w (bounded a b s k) x y lo hi i e f v h = limited_narrow fine _ _ _ _ _ _ lo hi i
    (λ l. ltb-true _ _ l)
    (negated_kept fine a b s k w x y lo hi e f (kept_of fine _ _ _ _ _ _ _ h)) v

pub negated_of_all : (scale : Scale) → (w : ℕ) (x : Bound) (i : Interval) → IsNarrow w x everything
    → IsNarrow w (negated_bound (limits_on scale) x) i
unfolding negated_bound IsNarrow
negated_of_all scale w unbounded i h = tt
negated_of_all scale w (bounded a b s k) i h = absurd h

-- ---- the lesser and the greater
wider : (w s k t m : ℕ) → s ≤ t → k ≤ m → s * w + k * 2 ^ 40 ≤ t * w + m * 2 ^ 40
wider w s k t m h j = omega (arith, mul-le-mul_right w h, j)

first_wider : (w s k t m : ℕ) → s * w + k * 2 ^ 40 ≤ max s t * w + max k m * 2 ^ 40
first_wider w s k t m = wider w s k (max s t) (max k m) (omega arith) (omega arith)

second_wider : (w s k t m : ℕ) → t * w + m * 2 ^ 40 ≤ max s t * w + max k m * 2 ^ 40
second_wider w s k t m = wider w t m (max s t) (max k m) (omega arith) (omega arith)

by_width : (z : ℤ) (n m : ℕ) → z ≤ℤ pos n → n ≤ m → z ≤ℤ pos m
by_width z n m h l = omega (arith, ints, h, l)

minimum_kept : (scale : Scale) → (a b c d : ℤ) (s k t m w : ℕ) (x y x' y' lo hi : ℤ) → lo ≡ int_min x x'
    → hi ≡ int_min y y' → AreKept scale a b s k w x y
    → AreKept scale c d t m w x' y' → AreKept scale (int_min a c) (int_min b d) (max s t) (max k m) w lo hi
minimum_kept coarse a b c d s k t m w x y x' y' lo hi e f h j = record {
  ordered = omega (arith, ints, clamps, e, f, h.ordered, j.ordered);
  above = omega (arith, ints, clamps, e, h.above, j.above);
  below = omega (arith, ints, clamps, f, h.below, j.below);
  close = by_lt_z x x'
      (λ l. by_width _ _ _ (omega (arith, ints, clamps, e, f, l, h.close)) (first_wider w s k t m))
      (λ l. by_width _ _ _ (omega (arith, ints, clamps, e, f, l, j.close)) (second_wider w s k t m));
}
minimum_kept fine a b c d s k t m w x y x' y' lo hi e f h j = record {
  ordered = omega (arith, ints, clamps, e, f, h.ordered, j.ordered);
  above = omega (arith, ints, clamps, e, h.above, j.above);
  below = omega (arith, ints, clamps, f, h.below, j.below);
  close = by_lt_z x x'
      (λ l. by_width _ _ _ (omega (arith, ints, clamps, e, f, l, h.close)) (first_wider w s k t m))
      (λ l. by_width _ _ _ (omega (arith, ints, clamps, e, f, l, j.close)) (second_wider w s k t m));
}

maximum_kept : (scale : Scale) → (a b c d : ℤ) (s k t m w : ℕ) (x y x' y' lo hi : ℤ) → lo ≡ int_max x x'
    → hi ≡ int_max y y' → AreKept scale a b s k w x y
    → AreKept scale c d t m w x' y' → AreKept scale (int_max a c) (int_max b d) (max s t) (max k m) w lo hi
maximum_kept coarse a b c d s k t m w x y x' y' lo hi e f h j = record {
  ordered = omega (arith, ints, clamps, e, f, h.ordered, j.ordered);
  above = omega (arith, ints, clamps, e, h.above, j.above);
  below = omega (arith, ints, clamps, f, h.below, j.below);
  close = by_lt_z y y'
      (λ l. by_width _ _ _ (omega (arith, ints, clamps, e, f, l, j.close)) (second_wider w s k t m))
      (λ l. by_width _ _ _ (omega (arith, ints, clamps, e, f, l, h.close)) (first_wider w s k t m));
}
maximum_kept fine a b c d s k t m w x y x' y' lo hi e f h j = record {
  ordered = omega (arith, ints, clamps, e, f, h.ordered, j.ordered);
  above = omega (arith, ints, clamps, e, h.above, j.above);
  below = omega (arith, ints, clamps, f, h.below, j.below);
  close = by_lt_z y y'
      (λ l. by_width _ _ _ (omega (arith, ints, clamps, e, f, l, j.close)) (second_wider w s k t m))
      (λ l. by_width _ _ _ (omega (arith, ints, clamps, e, f, l, h.close)) (first_wider w s k t m));
}

pub minimum_narrow : (scale : Scale) → (w : ℕ) (p q : Bound) (x y x' y' lo hi : ℤ) → lo ≡ int_min x x'
    → hi ≡ int_min y y'
    → IsNarrow w p (between (at_scale scale x) (at_scale scale y))
    → IsNarrow w q (between (at_scale scale x') (at_scale scale y'))
    → IsNarrow w (minimum_bound p q) (between (at_scale scale lo) (at_scale scale hi))
unfolding minimum_bound IsNarrow
minimum_narrow scale w unbounded q x y x' y' lo hi e f h j = tt
minimum_narrow scale w (bounded a b s k) unbounded x y x' y' lo hi e f h j = tt
minimum_narrow scale w (bounded a b s k) (bounded c d t m) x y x' y' lo hi e f h j =
    spans_of scale _ _ _ _ _ lo hi (minimum_kept scale a b c d s k t m w x y x' y' lo hi e f
    (kept_of scale _ _ _ _ _ _ _ h) (kept_of scale _ _ _ _ _ _ _ j))

pub maximum_narrow : (scale : Scale) → (w : ℕ) (p q : Bound) (x y x' y' lo hi : ℤ) → lo ≡ int_max x x'
    → hi ≡ int_max y y'
    → IsNarrow w p (between (at_scale scale x) (at_scale scale y))
    → IsNarrow w q (between (at_scale scale x') (at_scale scale y'))
    → IsNarrow w (maximum_bound p q) (between (at_scale scale lo) (at_scale scale hi))
unfolding maximum_bound IsNarrow
maximum_narrow scale w unbounded q x y x' y' lo hi e f h j = tt
maximum_narrow scale w (bounded a b s k) unbounded x y x' y' lo hi e f h j = tt
maximum_narrow scale w (bounded a b s k) (bounded c d t m) x y x' y' lo hi e f h j =
    spans_of scale _ _ _ _ _ lo hi (maximum_kept scale a b c d s k t m w x y x' y' lo hi e f
    (kept_of scale _ _ _ _ _ _ _ h) (kept_of scale _ _ _ _ _ _ _ j))

pub minimum_of_all : (w : ℕ) (x y : Bound) (i : Interval) → IsNarrow w x everything → IsNarrow w (minimum_bound x y) i
unfolding minimum_bound IsNarrow
minimum_of_all w unbounded y i h = tt
minimum_of_all w (bounded a b s k) y i h = absurd h

pub minimum_with_all : (w : ℕ) (x y : Bound) (i : Interval) → IsNarrow w y everything → IsNarrow w (minimum_bound x y) i
unfolding minimum_bound IsNarrow
minimum_with_all w unbounded y i h = tt
minimum_with_all w (bounded a b s k) unbounded i h = tt
minimum_with_all w (bounded a b s k) (bounded c d t m) i h = absurd h

pub maximum_of_all : (w : ℕ) (x y : Bound) (i : Interval) → IsNarrow w x everything → IsNarrow w (maximum_bound x y) i
unfolding maximum_bound IsNarrow
maximum_of_all w unbounded y i h = tt
maximum_of_all w (bounded a b s k) y i h = absurd h

pub maximum_with_all : (w : ℕ) (x y : Bound) (i : Interval) → IsNarrow w y everything → IsNarrow w (maximum_bound x y) i
unfolding maximum_bound IsNarrow
maximum_with_all w unbounded y i h = tt
maximum_with_all w (bounded a b s k) unbounded i h = tt
maximum_with_all w (bounded a b s k) (bounded c d t m) i h = absurd h

-- ---- endpoints in units of 2^-56
pub span_encloses : (scale : Scale) → (a b lo hi : ℤ) (i : Interval) → IsFloor lo a (finer_units scale)
    → IsCeiling hi b (finer_units scale)
    → ShowsEndpoints scale lo hi i → between (units_of_56 a) (units_of_56 b) ⊆ i
span_encloses coarse a b lo hi i l u k = within_trans (record {
  endpoints = (
    record { cross = omega (arith, ints, l.not_above) },
    record { cross = omega (arith, ints, u.not_below) },
  );
}) (kept_within coarse lo hi i k)
span_encloses fine a b lo hi i l u k = within_trans (record {
  endpoints = (
    record { cross = omega (arith, ints, l.not_above) },
    record { cross = omega (arith, ints, u.not_below) },
  );
}) (kept_within fine lo hi i k)

spanned_kept : (scale : Scale) → (a b : ℤ) (s k w : ℕ) (x y lo hi : ℤ) → IsFloor lo x (finer_units scale)
    → IsCeiling hi y (finer_units scale)
    → Spans a b s k w (units_of_56 x) (units_of_56 y) → AreKept scale a b s (k + 2 * (slack scale)) w lo hi
unfolding plus
spanned_kept coarse a b s k w x y lo hi l u h = record {
  ordered = omega (arith, ints, l.not_above, u.not_below, h.ordered.cross);
  above = omega (arith, ints, l.close, h.above.cross);
  below = omega (arith, ints, u.close, h.below.cross);
  close = omega (arith, ints, l.close, u.close, h.close.cross);
}
spanned_kept fine a b s k w x y lo hi l u h = record {
  ordered = omega (arith, ints, l.not_above, u.not_below, h.ordered.cross);
  above = omega (arith, ints, l.close, h.above.cross);
  below = omega (arith, ints, u.close, h.below.cross);
  close = omega (arith, ints, l.close, u.close, h.close.cross);
}

pub spanned_narrow : (scale : Scale) → (w : ℕ) (p : Bound) (x y lo hi : ℤ) (i : Interval)
    → IsFloor lo x (finer_units scale)
    → IsCeiling hi y (finer_units scale) → ShowsEndpoints scale lo hi i
    → IsNarrow w p (between (units_of_56 x) (units_of_56 y))
    → IsNarrow w (spanned_bound (limits_on scale) p) i
unfolding spanned_bound IsNarrow
spanned_narrow coarse w unbounded x y lo hi i l u v h = tt
spanned_narrow fine w unbounded x y lo hi i l u v h = tt
spanned_narrow coarse w (bounded a b s k) x y lo hi i l u v h = limited_narrow coarse _ _ _ _ _ _ lo hi i
    (λ e. ltb-true _ _ e)
    (spanned_kept coarse a b s k w x y lo hi l u h) v
spanned_narrow fine w (bounded a b s k) x y lo hi i l u v h = limited_narrow fine _ _ _ _ _ _ lo hi i
    (λ e. ltb-true _ _ e)
    (spanned_kept fine a b s k w x y lo hi l u h) v

-- ---- remainders
-- the period that is known holds both endpoints
equal_cells : (t : Bool) (p q r : ℤ) → t ≡ int_eq p q → when t p ≡ Some r → (p ≡ r) × (q ≡ r)
equal_cells true p q r e h = let f : p ≡ q = same_cells (sym e) in (cc, cc)
  where
    same_cells : int_eq p q ≡ true → p ≡ q
    same_cells g = by_lt_z p q (λ l. absurd (let n = eq_no p q (λ f. omega (arith, ints, l, f)) in cc))
        (λ l. by_lt_z q p (λ m. absurd (let n = eq_no p q (λ f. omega (arith, ints, m, f)) in cc))
        (λ m. omega (arith, ints, l, m)))
equal_cells false p q r e h = absurd (cc)

pub record IsInPeriod (scale : Scale) (m : ℕ) (q x y : ℤ) : Type 0 where
  pub from : ((pos m *ℤ q) *ℤ (unit scale)) ≤ℤ x
  pub to : y <ℤ ((pos m *ℤ q +ℤ pos m) *ℤ (unit scale))

begun_in : (scale : Scale) → (m : ℕ) (q x : ℤ) → 0 < m → threshold (multiples m) q ≤F at_scale scale x
    → ((pos m *ℤ q) *ℤ (unit scale)) ≤ℤ x
unfolding threshold
begun_in coarse m q x p h = let e : suc (m - 1) ≡ m = omega (arith, p) in let k = rw e at h.cross in
    omega (arith, ints, k)
begun_in fine m q x p h = let e : suc (m - 1) ≡ m = omega (arith, p) in let k = rw e at h.cross in
    omega (arith, ints, k)

over_in : (scale : Scale) → (m : ℕ) (q y : ℤ) → 0 < m → at_scale scale y <F threshold (multiples m) (q +ℤ pos 1)
    → y <ℤ ((pos m *ℤ q +ℤ pos m) *ℤ (unit scale))
unfolding threshold
over_in coarse m q y p h = let e : suc (m - 1) ≡ m = omega (arith, p) in let k = rw e at h.strict in
    omega (arith, ints, k, mul_add (pos m) q (pos 1))
over_in fine m q y p h = let e : suc (m - 1) ≡ m = omega (arith, p) in let k = rw e at h.strict in
    omega (arith, ints, k, mul_add (pos m) q (pos 1))

pub in_period : (scale : Scale) → (m : ℕ) (q x y : ℤ) → 0 < m
    → cell_at (multiples m) (between (at_scale scale x) (at_scale scale y)) ≡ Some q
    → IsInPeriod scale m q x y
unfolding cell_at
in_period coarse m q x y p h =
    let e = equal_cells _ (cell_of (multiples m) (at_scale coarse x)) (cell_of (multiples m) (at_scale coarse y)) q
    refl h in
    let b = (cells_cut (multiples m)).begun (at_scale coarse x) in
    let o = (cells_cut (multiples m)).not_over (at_scale coarse y) in
    record { from = begun_in coarse m q x p (rw e.0 at b); to = over_in coarse m q y p (rw e.1 at o) }
in_period fine m q x y p h =
    let e = equal_cells _ (cell_of (multiples m) (at_scale fine x)) (cell_of (multiples m) (at_scale fine y)) q
    refl h in
    let b = (cells_cut (multiples m)).begun (at_scale fine x) in
    let o = (cells_cut (multiples m)).not_over (at_scale fine y) in
    record { from = begun_in fine m q x p (rw e.0 at b); to = over_in fine m q y p (rw e.1 at o) }

remainder_kept : (scale : Scale) → (a b : ℤ) (s k w m : ℕ) (q x y lo hi : ℤ) → lo ≡ x -ℤ ((pos m *ℤ q) *ℤ (unit scale))
    → hi
    ≡ y -ℤ ((pos m *ℤ q) *ℤ (unit scale)) → IsInPeriod scale m q x y → AreKept scale a b s k w x y
    → AreKept scale (pos 0) (pos (m * 2 ^ 32)) s k w lo hi
remainder_kept coarse a b s k w m q x y lo hi e f p h = record {
  ordered = omega (arith, ints, e, f, h.ordered);
  above = omega (arith, ints, e, p.from);
  below = omega (arith, ints, f, p.to);
  close = omega (arith, ints, e, f, h.close);
}
remainder_kept fine a b s k w m q x y lo hi e f p h = record {
  ordered = omega (arith, ints, e, f, h.ordered);
  above = omega (arith, ints, e, p.from);
  below = omega (arith, ints, f, p.to);
  close = omega (arith, ints, e, f, h.close);
}

remainder_size : (scale : Scale) → (m : ℕ) → m * 2 ^ 32 < (most_size scale)
    → range_size (pos 0) (pos (m * 2 ^ 32)) < (most_size scale)
remainder_size coarse m h = omega (arith, ints, h)
remainder_size fine m h = omega (arith, ints, h)

pub remainder_narrow : (scale : Scale) → (w m : ℕ) (p : Bound) (q x y lo hi : ℤ) (i : Interval) → 0 < m
    → cell_at (multiples m) (between (at_scale scale x) (at_scale scale y)) ≡ Some q
    → lo ≡ x -ℤ ((pos m *ℤ q) *ℤ (unit scale)) → hi
    ≡ y -ℤ ((pos m *ℤ q) *ℤ (unit scale))
    → ShowsEndpoints scale lo hi i → IsNarrow w p (between (at_scale scale x) (at_scale scale y))
    → IsNarrow w (remainder_bound (limits_on scale) m p) i
unfolding remainder_bound IsNarrow
remainder_narrow coarse w m unbounded q x y lo hi i z c e f v h = tt
remainder_narrow fine w m unbounded q x y lo hi i z c e f v h = tt
remainder_narrow coarse w m (bounded a b s k) q x y lo hi i z c e f v h =
    limited_narrow coarse _ _ _ _ _ _ lo hi i (λ l. remainder_size coarse m (ltb-true _ _ l))
    (remainder_kept coarse a b s k w m q x y lo hi e f (in_period coarse m q x y z c) (kept_of coarse _ _ _ _ _ _ _ h))
    v
remainder_narrow fine w m (bounded a b s k) q x y lo hi i z c e f v h =
    limited_narrow fine _ _ _ _ _ _ lo hi i (λ l. remainder_size fine m (ltb-true _ _ l))
    (remainder_kept fine a b s k w m q x y lo hi e f (in_period fine m q x y z c) (kept_of fine _ _ _ _ _ _ _ h)) v

pub remainder_of_all : (scale : Scale) → (w m : ℕ) (x : Bound) (i : Interval) → IsNarrow w x everything
    → IsNarrow w (remainder_bound (limits_on scale) m x) i
unfolding remainder_bound IsNarrow
remainder_of_all scale w m unbounded i h = tt
remainder_of_all scale w m (bounded a b s k) i h = absurd h

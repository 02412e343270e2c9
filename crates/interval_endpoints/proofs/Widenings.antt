-- Hulls and widenings of endpoints at a scale keep their bounds. In whole numbers (`AreKept`): a hull's width is the
-- sum of both where ranges meet, as its bound has it, and a margin is at most the size of its fraction and a unit. From
-- there by cases of the bounds, as in `Keeping`.
use Rattle.interval_endpoints.specs.Scales.{Scale, coarse, fine, at_scale, unit, limits_on, slack, span, grain}
use Rattle.std.proofs.Common.{◌≡◌, ℕ, suc, ◌+◌, ◌*◌, ◌^◌, ◌<◌, refl, sym, arith, Bool, true, false, ◌&&◌, nat_lt, ℤ}
use Rattle.std.proofs.Common.{pos, ◌+ℤ◌, ◌*ℤ◌, ◌-ℤ◌, ◌≤ℤ◌, ◌<ℤ◌, [], ◌∷◌, subst}
use Rattle.std.specs.Prelude.{unsigned_abs}
use Rattle.std.specs.Int.{int_min, int_max}
use Rattle.std.proofs.lemmas.Int.{ints, clamps}
use Rattle.std.proofs.lemmas.Bool.{ltb-true}
use Rattle.book_model.specs.Fraction.{Fraction}
use Rattle.book_model.specs.Interval.{Interval, everything, between}
use Rattle.book_model.proofs.Ring.{at, lit, ◌⊕◌, ◌⊗◌}
use Rattle.book_model.proofs.Bounds.{◌≼◌, known, ◌⊞◌, ◌⊠◌, times as naturally, le_over}
use Rattle.book_model.specs.numbers.Bounds.{Bound, Limits, unbounded, bounded, limited, margin_32, margin_64}
use Rattle.book_model.specs.numbers.Bounds.{hull_bound, widen_bound, IsNarrow}
use Rattle.int_division.proofs.Quotients.{next_le}
use Rattle.interval_endpoints.specs.Rounding.{IsMarginAt, ShowsEndpoints}
use Rattle.interval_endpoints.proofs.Keeping.{AreKept, kept_of, spans_of, limited_narrow, both}
use Rattle.interval_endpoints.proofs.Enclosing.{margin_nonneg}
use Rattle.interval_endpoints.proofs.Margins.{margin_least}
use Rattle.interval_endpoints.proofs.Products.{ceil_above}

-- ---- hulls
hull_kept : (scale : Scale) (a b c d : ℤ) (s k t m w : ℕ) (x y x' y' lo hi : ℤ) → lo ≡ int_min x x' → hi ≡ int_max y y'
    → AreKept scale a b s k w x y
    → AreKept scale c d t m w x' y'
    → AreKept scale (int_min a c) (int_max b d) 0 (unsigned_abs (int_max b d -ℤ int_min a c) * 2 ^ 32) w lo hi
hull_kept coarse a b c d s k t m w x y x' y' lo hi e f h j = record {
  ordered = omega (arith, ints, clamps, e, f, h.ordered, j.ordered);
  above = omega (arith, ints, clamps, e, h.above, j.above);
  below = omega (arith, ints, clamps, f, h.below, j.below);
  close = omega (arith, ints, clamps, e, f, h.above, j.above, h.below, j.below, h.ordered, j.ordered);
}
hull_kept fine a b c d s k t m w x y x' y' lo hi e f h j = record {
  ordered = omega (arith, ints, clamps, e, f, h.ordered, j.ordered);
  above = omega (arith, ints, clamps, e, h.above, j.above);
  below = omega (arith, ints, clamps, f, h.below, j.below);
  close = omega (arith, ints, clamps, e, f, h.above, j.above, h.below, j.below, h.ordered, j.ordered);
}

pub hull_narrow : (scale : Scale) (w : ℕ) (p q : Bound) (x y x' y' lo hi : ℤ) → lo ≡ int_min x x' → hi ≡ int_max y y'
    → IsNarrow w p (between (at_scale scale x) (at_scale scale y))
    → IsNarrow w q (between (at_scale scale x') (at_scale scale y'))
    → IsNarrow w (hull_bound p q) (between (at_scale scale lo) (at_scale scale hi))
unfolding hull_bound IsNarrow
hull_narrow scale w unbounded q x y x' y' lo hi e f h j = tt
hull_narrow scale w (bounded a b s k) unbounded x y x' y' lo hi e f h j = tt
hull_narrow scale w (bounded a b s k) (bounded c d t m) x y x' y' lo hi e f h j =
    spans_of scale _ _ _ _ _ lo hi (hull_kept scale a b c d s k t m w x y x' y' lo hi e f
    (kept_of scale _ _ _ _ _ _ _ h) (kept_of scale _ _ _ _ _ _ _ j))

pub hull_of_all : (w : ℕ) (x y : Bound) (i : Interval) → IsNarrow w x everything → IsNarrow w (hull_bound x y) i
unfolding hull_bound IsNarrow
hull_of_all w unbounded y i h = tt
hull_of_all w (bounded a b s k) y i h = absurd h

pub hull_with_all : (w : ℕ) (x y : Bound) (i : Interval) → IsNarrow w y everything → IsNarrow w (hull_bound x y) i
unfolding hull_bound IsNarrow
hull_with_all w unbounded y i h = tt
hull_with_all w (bounded a b s k) unbounded i h = tt
hull_with_all w (bounded a b s k) (bounded c d t m) i h = absurd h

-- ---- widenings
-- a margin is at most the size of the fraction, and a unit
width_z : (scale : Scale) (m n d c : ℤ) → pos 1 ≤ℤ d → (m *ℤ d +ℤ pos 1) ≤ℤ (n *ℤ unit scale +ℤ d)
    → (n *ℤ pos (2 ^ 64)) ≤ℤ (c *ℤ d) → (m *ℤ grain scale)
    ≤ℤ (c *ℤ pos (2 ^ 40) +ℤ grain scale)
width_z coarse m n d c one h k =
    let t = λ (j : ℕ). lit (pos (2 ^ j)) in
    le_over (m ∷ n ∷ d ∷ c ∷ []) ((at 0 ⊗ at 2 ⊕ lit (pos 1) ≼ at 1 ⊗ t 36 ⊕ at 2) ∷ (at 1 ⊗ t 64 ≼ at 3 ⊗ at 2) ∷ [])
    (at 2) (at 0 ⊗ t 68) (at 3 ⊗ t 40 ⊕ t 68)
    (naturally (2 ^ 68) ⊠ known 0 ⊞ naturally (2 ^ 40) ⊠ known 1 ⊞ naturally (2 ^ 68)) refl one (h, (k, tt))
width_z fine m n d c one h k =
    let t = λ (j : ℕ). lit (pos (2 ^ j)) in
    le_over (m ∷ n ∷ d ∷ c ∷ []) ((at 0 ⊗ at 2 ⊕ lit (pos 1) ≼ at 1 ⊗ t 56 ⊕ at 2) ∷ (at 1 ⊗ t 64 ≼ at 3 ⊗ at 2) ∷ [])
    (at 2) (at 0 ⊗ t 48) (at 3 ⊗ t 40 ⊕ t 48)
    (naturally (2 ^ 48) ⊠ known 0 ⊞ naturally (2 ^ 40) ⊠ known 1 ⊞ naturally (2 ^ 48)) refl one (h, (k, tt))

-- so it is, in whole numbers
pub margin_close : (scale : Scale) (f : Fraction) (m : ℤ) → IsMarginAt scale f m
    → (m *ℤ grain scale) ≤ℤ (pos (margin_64 f) *ℤ pos (2 ^ 40) +ℤ grain scale)
margin_close scale f m h =
    let e : pos (f.below + 1) ≡ pos (suc f.below) = omega (arith, ints) in
    let c : (m *ℤ pos (suc f.below) +ℤ pos 1) ≤ℤ (pos (unsigned_abs f.num) *ℤ unit scale +ℤ pos (suc f.below)) =
    next_le _ _
    (subst (λ x. (m *ℤ x) <ℤ (pos (unsigned_abs f.num) *ℤ unit scale +ℤ x)) e h.rounded.close) in
    width_z scale m (pos (unsigned_abs f.num)) (pos (suc f.below)) (pos (margin_64 f)) (omega (arith, ints)) c
    (omega (arith, ints, ceil_above (unsigned_abs f.num * 2 ^ 64) f.below))

-- and no greater than the size in 2^-32, rounded up
pub margin_within : (scale : Scale) (f : Fraction) (m : ℤ) → IsMarginAt scale f m
    → m ≤ℤ (span scale *ℤ pos (margin_32 f))
margin_within coarse f m h = margin_least coarse f m (pos 16 *ℤ pos (margin_32 f)) h
    (omega (arith, ints, ceil_above (unsigned_abs f.num * 2 ^ 32) f.below))
margin_within fine f m h = margin_least fine f m (pos (2 ^ 24) *ℤ pos (margin_32 f)) h
    (omega (arith, ints, ceil_above (unsigned_abs f.num * 2 ^ 32) f.below))

widen_kept : (scale : Scale) (f : Fraction) (a b : ℤ) (s k w : ℕ) (x y m lo hi : ℤ) → IsMarginAt scale f m → lo ≡ x -ℤ m
    → hi ≡ y +ℤ m
    → AreKept scale a b s k w x y
    → AreKept scale (a -ℤ pos (margin_32 f)) (b +ℤ pos (margin_32 f)) s (k + (2 * margin_64 f + 2 * slack scale)) w lo
    hi
widen_kept coarse f a b s k w x y m lo hi h e g j =
    let n = margin_nonneg coarse f m h in
    let c = margin_close coarse f m h in
    let t = margin_within coarse f m h in
    record {
      ordered = omega (arith, ints, e, g, n, j.ordered);
      above = omega (arith, ints, e, t, j.above);
      below = omega (arith, ints, g, t, j.below);
      close = omega (arith, ints, e, g, c, j.close);
    }
widen_kept fine f a b s k w x y m lo hi h e g j =
    let n = margin_nonneg fine f m h in
    let c = margin_close fine f m h in
    let t = margin_within fine f m h in
    record {
      ordered = omega (arith, ints, e, g, n, j.ordered);
      above = omega (arith, ints, e, t, j.above);
      below = omega (arith, ints, g, t, j.below);
      close = omega (arith, ints, e, g, c, j.close);
    }

pub widen_narrow : (scale : Scale) (w : ℕ) (f : Fraction) (p : Bound) (x y m lo hi : ℤ) (i : Interval)
    → IsMarginAt scale f m → lo ≡ x -ℤ m → hi ≡ y +ℤ m
    → ShowsEndpoints scale lo hi i → IsNarrow w p (between (at_scale scale x) (at_scale scale y))
    → IsNarrow w (widen_bound (limits_on scale) f p) i
unfolding widen_bound IsNarrow
widen_narrow scale w f unbounded x y m lo hi i h e g v j = tt
widen_narrow coarse w f (bounded a b s k) x y m lo hi i h e g v j = limited_narrow coarse _ _ _ _ _ _ lo hi i
    (λ l. ltb-true _ _ (both _ _ l).1)
    (widen_kept coarse f a b s k w x y m lo hi h e g (kept_of coarse _ _ _ _ _ _ _ j)) v
widen_narrow fine w f (bounded a b s k) x y m lo hi i h e g v j = limited_narrow fine _ _ _ _ _ _ lo hi i
    (λ l. ltb-true _ _ (both _ _ l).1)
    (widen_kept fine f a b s k w x y m lo hi h e g (kept_of fine _ _ _ _ _ _ _ j)) v

pub widen_of_all : (l : Limits) (w : ℕ) (f : Fraction) (x : Bound) (i : Interval) → IsNarrow w x everything
    → IsNarrow w (widen_bound l f x) i
unfolding widen_bound IsNarrow
widen_of_all l w f unbounded i h = tt
widen_of_all l w f (bounded a b s k) i h = absurd h

-- where the numerator is too great, no bound is promised
pub widen_overflow : (scale : Scale) (w : ℕ) (f : Fraction) (p : Bound) (i : Interval)
    → ((unsigned_abs f.num < (limits_on scale).constants) → ⊥)
    → IsNarrow w (widen_bound (limits_on scale) f p) i
unfolding widen_bound IsNarrow
widen_overflow scale w f unbounded i n = tt
widen_overflow scale w f (bounded a b s k) i n = by_test _ _ _ refl
  where
    by_test : (t r : Bool) (p : Bound) → t ≡ (nat_lt (unsigned_abs f.num) (limits_on scale).constants && r)
        → IsNarrow w (limited t p) i
    by_test false r p e = tt
    by_test true r p e = absurd (n (ltb-true _ _ (both _ _ (sym e)).0))

-- How wide an arctangent of negative numbers is at a rate, and what is moved into -180..180 degrees. The endpoints of
-- what is measured keep their bound in whole numbers; the span over them is as wide as the rate times that, rounded up,
-- and 56 parts, by linear arithmetic and products of inequalities. Endpoints that are moved there are no further apart
-- than before.
use Rattle.std.specs.Prelude.{unsigned_abs}
use Rattle.std.proofs.Common.{◌≡◌, ◌≤◌, ◌+◌, ◌-◌, ◌*◌, ◌^◌, arith, ℕ, ℤ, pos, ◌+ℤ◌, ◌-ℤ◌, ◌*ℤ◌, ◌≤ℤ◌}
use Rattle.std.proofs.lemmas.Int.{ints, clamps}
use Rattle.std.proofs.Math.Nat.{mul-le-mul, mul-le-mul_left, mul-le-mul_right}
use lib.IntN.{neg_ℤ}
use Rattle.book_model.specs.Interval.{Interval, everything, between, ◌⊆◌}
use Rattle.book_model.proofs.IntLaws.{add_mul}
use Rattle.book_model.specs.programs.Leading.{units_of_56}
use Rattle.book_model.specs.programs.Widths.{IsWithin, IsAbout}
use Rattle.book_model.specs.numbers.Bounds.{Bound, bounded, IsNarrow, ceil_div, limits_of, spanned_bound}
use Rattle.book_model.proofs.Implying.{limits_within}
use Rattle.encl_core.proofs.Measuring.{looser}
use Rattle.encl_core.specs.declared.span.Span.{Span}
use Rattle.arc_series.specs.Widths.{IsRate, IsRateFrom, slow_width, IsOver}
use Rattle.arc_series.proofs.PieceArcs.{size_above}
use Rattle.arc_series.proofs.ArcLemmas.{moved}
use Rattle.arc_series.proofs.ArcWidths.{span_keeps, kept_of, spans_of, ceil_above, AreKept}

-- ---- a rate up to a number
rate_to : (s p : ℕ) (to : ℤ) → IsRateFrom s p → to ≤ℤ (neg_ℤ (pos p) *ℤ pos (2 ^ 24)) → IsRate s to
rate_to s p to r h = let e = size_above (pos (2 ^ 56) -ℤ to) (omega (arith, ints, h)) in
    record {
      below = omega (arith, ints, h);
      enough = rw e (by_size (unsigned_abs (pos (2 ^ 56) -ℤ to)) (omega (arith, ints, h, e)));
    }
  where
    by_size : (u : ℕ) → (2 ^ 32 + p) * 2 ^ 24 ≤ u → pos (9 * 2 ^ 170) ≤ℤ (pos s *ℤ (pos u *ℤ pos u))
    by_size u l = let k = mul-le-mul_left s (mul-le-mul l l) in omega (arith, ints, r.enough, k)

apart_times : (s d : ℕ) (from to : ℤ) → (to -ℤ from) ≡ pos d → (to *ℤ pos s -ℤ from *ℤ pos s) ≡ pos (d * s)
apart_times s d from to e = let f : to ≡ from +ℤ pos d = omega (arith, ints, e) in
    rw f (by_sum (add_mul from (pos d) (pos s)))
  where
    by_sum : ((from +ℤ pos d) *ℤ pos s) ≡ (from *ℤ pos s +ℤ pos d *ℤ pos s)
        → ((from +ℤ pos d) *ℤ pos s -ℤ from *ℤ pos s) ≡ pos (d * s)
    by_sum g = omega (arith, ints, g)

-- ---- at a rate
close_slow : (s w : ℕ) (from to lo hi : ℤ) → from ≤ℤ to
    → ((to -ℤ from) *ℤ pos (2 ^ 48)) ≤ℤ (pos (0 * 0) +ℤ pos (w * 2 ^ 40))
    → ((hi -ℤ lo) *ℤ pos (10 * 2 ^ 60)) ≤ℤ ((to *ℤ pos s -ℤ from *ℤ pos s) *ℤ pos 573 +ℤ pos (560 * 2 ^ 60))
    → ((hi -ℤ lo) *ℤ pos (2 ^ 48))
    ≤ℤ (pos (0 * 0) +ℤ pos ((ceil_div (w * s * 573) (10 * 2 ^ 60 - 1) + 56 * 2 ^ 8) * 2 ^ 40))
close_slow s w from to lo hi o c n =
    let e = size_above (to -ℤ from) (omega (arith, ints, o)) in
    by_numbers (unsigned_abs (to -ℤ from)) (ceil_div (w * s * 573) (10 * 2 ^ 60 - 1)) (omega (arith, ints, c, e))
    (rw (apart_times s (unsigned_abs (to -ℤ from)) from to e) at n) (ceil_above (w * s * 573) (10 * 2 ^ 60 - 1))
  where
    by_numbers : (d q : ℕ) → d * 2 ^ 8 ≤ w
        → ((hi -ℤ lo) *ℤ pos (10 * 2 ^ 60)) ≤ℤ (pos (d * s) *ℤ pos 573 +ℤ pos (560 * 2 ^ 60))
        → w * s * 573 ≤ q * (10 * 2 ^ 60)
        → ((hi -ℤ lo) *ℤ pos (2 ^ 48)) ≤ℤ (pos (0 * 0) +ℤ pos ((q + 56 * 2 ^ 8) * 2 ^ 40))
    by_numbers d q l m k = omega (arith, ints, mul-le-mul_right s l, m, k)

pub arctangent_slow : {E : Type 0} (shown : E → Interval) (n : ℕ) (x y : E) (from to : ℤ) (r : Span) → from ≤ℤ to
    → shown x ⊆ between (units_of_56 from) (units_of_56 to) → between (units_of_56 from) (units_of_56 to) ⊆ shown x
    → IsOver from to r
    → ((w : ℕ) (b : Bound) → IsNarrow w b (between (units_of_56 r.lo) (units_of_56 r.hi))
    → IsNarrow w (spanned_bound (limits_of n) b) (shown y))
    → (low : ℤ) (p s w : ℕ) → n ≡ 56 → IsRateFrom s p → IsWithin low (neg_ℤ (pos p)) w (shown x)
    → IsAbout (91 * 2 ^ 32) (slow_width s w) (shown y)
unfolding spanned_bound IsNarrow
arctangent_slow shown n x y from to r o g h v f low p s w e t k =
    let l = limits_within n (omega arith) (omega arith) in
    let a = kept_of low (neg_ℤ (pos p)) 0 w 0 from to (span_keeps 0 (bounded low (neg_ℤ (pos p)) 0 w) (shown x) from to
    o g h k.kept) in
    let q : ℕ = ceil_div (w * s * 573) (10 * 2 ^ 60 - 1) + 56 * 2 ^ 8 in
    let z = f 0 (bounded (neg_ℤ (pos (91 * 2 ^ 32))) (pos (91 * 2 ^ 32)) 0 q)
    (spans_of (neg_ℤ (pos (91 * 2 ^ 32))) (pos (91 * 2 ^ 32)) 0 q 0 r.lo r.hi
    (record {
      low =
          omega (arith, ints, v.above.quarter);
      high = omega (arith, ints, v.below.quarter);
      order = r.ordered;
      close = close_slow s w from to r.lo r.hi o a.close (v.slow s (rate_to s p to t a.high));
    })) in
    looser _ _ _ _ (q + 2 * 2 ^ 8) (slow_width s w) (shown y) (omega (arith, ints)) (omega (arith, ints)) (omega arith)
    (record { kept = rw (l, e) at z })

pub nothing_slow : {E : Type 0} (shown : E → Interval) (x y : E) → shown x ≡ everything
    → (low high : ℤ) (w : ℕ) (bottom top : ℤ) (v : ℕ)
    → IsWithin low high w (shown x) → IsWithin bottom top v (shown y)
unfolding IsNarrow
nothing_slow shown x y e low high w bottom top v h = absurd (rw e at h.kept)

-- ---- moved into -180..180
moved_kept : (high : ℤ) (v : ℕ) (lo hi low top : ℤ) → low ≡ moved lo → top ≡ moved hi
    → AreKept (pos (90 * 2 ^ 32)) high 0 v 0 lo hi
    → AreKept (pos (90 * 2 ^ 32)) (pos (180 * 2 ^ 32)) 0 v 0 low top
moved_kept high v lo hi low top e f k = record {
  low = omega (arith, ints, clamps, e, k.low);
  high = omega (arith, ints, clamps, f);
  order = omega (arith, ints, clamps, e, f, k.order);
  close = omega (arith, ints, clamps, e, f, k.low, k.order, k.close);
}

pub moved_narrow : {E : Type 0} (shown : E → Interval) (n : ℕ) (x y : E) (lo hi low top : ℤ) → lo ≤ℤ hi → low ≡ moved lo
    → top ≡ moved hi
    → shown x ⊆ between (units_of_56 lo) (units_of_56 hi) → between (units_of_56 lo) (units_of_56 hi) ⊆ shown x
    → ((w : ℕ) (b : Bound) → IsNarrow w b (between (units_of_56 low) (units_of_56 top))
    → IsNarrow w (spanned_bound (limits_of n) b) (shown y))
    → (high : ℤ) (v : ℕ) → n ≡ 56 → IsWithin (pos (90 * 2 ^ 32)) high v (shown x)
    → IsWithin (pos (90 * 2 ^ 32)) (pos (180 * 2 ^ 32)) (v + 2 ^ 9) (shown y)
unfolding spanned_bound IsNarrow
moved_narrow shown n x y lo hi low top o a b g h f high v e k =
    let l = limits_within n (omega arith) (omega arith) in
    let i = kept_of (pos (90 * 2 ^ 32)) high 0 v 0 lo hi (span_keeps 0 (bounded (pos (90 * 2 ^ 32)) high 0 v) (shown x)
    lo hi o g h k.kept) in
    let z =
    f 0 (bounded (pos (90 * 2 ^ 32)) (pos (180 * 2 ^ 32)) 0 v)
    (spans_of (pos (90 * 2 ^ 32)) (pos (180 * 2 ^ 32)) 0 v 0 low top (moved_kept high v lo hi low top a b i)) in
    looser _ _ _ _ (v + 2 * 2 ^ 8) (v + 2 ^ 9) (shown y) (omega (arith, ints)) (omega (arith, ints)) (omega arith)
    (record { kept = rw (l, e) at z })

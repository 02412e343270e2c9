-- How wide a sum of periodic terms is as an enclosure at the scale of 2^-56: the bound of the days gives how far
-- apart their endpoints are, the span's own clause how far apart those of the sum are, and these are a bound again.
use Rattle.std.proofs.Common.{◌≡◌, ℕ, ◌+◌, ◌*◌, ◌/◌, ◌^◌, ◌≤◌, ◌<◌, refl, arith, true, unsigned_abs, neg_ℤ, ℤ, pos}
use Rattle.std.proofs.Common.{◌+ℤ◌, ◌-ℤ◌, ◌*ℤ◌, ◌≤ℤ◌, [], ◌∷◌}
use Rattle.std.specs.Prelude.{max, nat_lt}
use Rattle.std.proofs.lemmas.Bool.{lt-ltb}
use Rattle.std.proofs.lemmas.Int.{ints}
use Rattle.book_model.specs.Interval.{Interval, everything, between, ◌⊆◌}
use Rattle.book_model.proofs.Bounds.{◌≼◌, known, ◌⊠◌, le_by}
use Rattle.book_model.proofs.Ring.{at, lit, ◌⊕◌, ◌⊗◌}
use Rattle.book_model.specs.numbers.Bounds.{Bound, bounded, IsNarrow, limits_at, limits_of, spanned_bound}
use Rattle.book_model.specs.programs.Leading.{units_of_56}
use Rattle.book_model.specs.programs.Widths.{IsAbout}
use Rattle.book_model.proofs.Implying.{limits_within}
use Rattle.trig_series.proofs.SineLemmas.{AreKept, span_keeps, kept_of, spans_of}
use Rattle.periodic_terms.specs.Turning.{AreKnown, IsNarrowSum, width_of_sum}

-- ---- the days
days_kept : (v : ℕ) (i : Interval) (lo hi : ℤ) → lo ≤ℤ hi → i ⊆ between (units_of_56 lo) (units_of_56 hi)
    → between (units_of_56 lo) (units_of_56 hi) ⊆ i → IsAbout (2 ^ 52) v i
    → AreKept (neg_ℤ (pos (2 ^ 52))) (pos (2 ^ 52)) 0 v 0 lo hi
unfolding IsNarrow
days_kept v i lo hi o g h m = kept_of _ _ _ _ 0 lo hi (span_keeps 0 (bounded (neg_ℤ (pos (2 ^ 52))) (pos (2 ^ 52)) 0 v)
    i lo hi o g h m.kept)

pub are_known : (v : ℕ) (lo hi : ℤ) → v ≤ 2 ^ 70 → AreKept (neg_ℤ (pos (2 ^ 52))) (pos (2 ^ 52)) 0 v 0 lo hi
    → AreKnown lo hi
are_known v lo hi b k = record {
  from = omega (arith, ints, k.low);
  to = omega (arith, ints, k.high);
  close =
      omega (arith, ints, k.close, b);
}

-- ---- the sum
sloped : (d slope v : ℤ) → (d *ℤ pos (2 ^ 8)) ≤ℤ v → pos 0 ≤ℤ slope → (((d +ℤ pos (2 ^ 9)) *ℤ slope) *ℤ pos (2 ^ 8))
    ≤ℤ ((v +ℤ pos (2 ^ 17)) *ℤ slope)
sloped d slope v h n =
    le_by (d ∷ slope ∷ v ∷ []) ((at 0 ⊗ lit (pos (2 ^ 8)) ≼ at 2) ∷ (lit (pos 0) ≼ at 1) ∷ [])
    (((at 0 ⊕ lit (pos (2 ^ 9))) ⊗ at 1) ⊗ lit (pos (2 ^ 8))) ((at 2 ⊕ lit (pos (2 ^ 17))) ⊗ at 1) (known 0 ⊠ known 1)
    refl (h, (n, tt))

apart : (c p : ℤ) (q k : ℕ) → (c *ℤ pos (2 ^ 32)) ≤ℤ (p +ℤ (pos k *ℤ pos (2 ^ 33))) → (p *ℤ pos (2 ^ 8)) ≤ℤ pos q
    → (c *ℤ pos (2 ^ 48)) ≤ℤ pos ((q / 2 ^ 32 + k * 2 ^ 9) * 2 ^ 40)
apart c p q k h m = omega (arith, ints, h, m)

spanned_at : (s w : ℕ) → s < 2 ^ 100 → spanned_bound (limits_at 56) (bounded (neg_ℤ (pos s)) (pos s) 0 w)
    ≡ bounded (neg_ℤ (pos s)) (pos s) 0 (w + 2 * 2 ^ 8)
unfolding spanned_bound
spanned_at s w h =
    let p : nat_lt (max (unsigned_abs (neg_ℤ (pos s))) (unsigned_abs (pos s))) (2 ^ 100) ≡ true =
    lt-ltb _ _ (omega (arith, ints, h)) in
    rw p refl

module _ (slope sizes v : ℕ) (first last lo hi : ℤ) (b : sizes ≤ 2 ^ 40) (c : ((last -ℤ first) *ℤ pos (2 ^ 8)) ≤ℤ pos v)
    (h : IsNarrowSum slope sizes first last lo hi) (o : lo ≤ℤ hi)
  where
    abbrev width : ℕ
    width = (v + 2 ^ 17) * slope / 2 ^ 32 + (sizes * 28 + 1) * 2 ^ 9

    sum_kept : AreKept (neg_ℤ (pos (sizes * 2 ^ 32))) (pos (sizes * 2 ^ 32)) 0 width 0 lo hi
    sum_kept =
        let s = sloped (last -ℤ first) (pos slope) (pos v) c (omega (arith, ints)) in
        let k = apart (hi -ℤ lo) (((last -ℤ first) +ℤ pos (2 ^ 9)) *ℤ pos slope) ((v + 2 ^ 17) * slope) (sizes * 28 + 1)
        h.narrow s in
        record {
          low = omega (arith, ints, h.above);
          high = omega (arith, ints, h.below);
          order = o;
          close = omega (arith, ints, k);
        }

    pub sum_measured : {E : Type 0} (shown : E → Interval) (n : ℕ) (y : E) → n ≡ 56
        → ((w : ℕ) (b : Bound) → IsNarrow w b (between (units_of_56 lo) (units_of_56 hi))
        → IsNarrow w (spanned_bound (limits_of n) b) (shown y))
        → IsAbout (sizes * 2 ^ 32) (width_of_sum slope sizes v) (shown y)
    unfolding IsNarrow
    sum_measured shown n y e f =
        let s = sizes * 2 ^ 32 in
        let l = limits_within n (omega arith) (omega arith) in
        let z = f 0 (bounded (neg_ℤ (pos s)) (pos s) 0 width) (spans_of _ _ 0 width 0 lo hi sum_kept) in
        let w : width + 2 * 2 ^ 8 ≡ width_of_sum slope sizes v = omega arith in
        record { kept = rw (l, e, spanned_at s width (omega (arith, b)), w) at z }

pub known_and_kept : (v : ℕ) (i : Interval) (lo hi : ℤ) → v ≤ 2 ^ 70 → lo ≤ℤ hi
    → i ⊆ between (units_of_56 lo) (units_of_56 hi)
    → between (units_of_56 lo) (units_of_56 hi) ⊆ i → IsAbout (2 ^ 52) v i → AreKnown lo hi
    × (((hi -ℤ lo) *ℤ pos (2 ^ 8)) ≤ℤ pos v)
known_and_kept v i lo hi b o g h m =
    let k = days_kept v i lo hi o g h m in
    (are_known v lo hi b k, omega (arith, ints, k.close))

pub not_everything : (v s : ℕ) (i : Interval) → i ≡ everything → IsAbout s v i → ⊥
unfolding IsNarrow
not_everything v s everything e m = m.kept
not_everything v s (between a b) e m = absurd (cc)

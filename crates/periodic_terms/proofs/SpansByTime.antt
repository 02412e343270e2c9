-- The radius of a sum over an interval of days: it has room for the radius of every row, and the sum is hardly wider
-- than the slope makes it.
use Rattle.std.specs.Prelude.{IfSome, Some, None, Option}
use Rattle.std.proofs.Common.{◌≡◌, ℕ, ◌*◌, ◌^◌, refl, arith, neg_ℤ, ℤ, pos, ◌+ℤ◌, ◌-ℤ◌, ◌*ℤ◌, ◌≤ℤ◌, List, length, []}
use Rattle.std.proofs.Common.{◌∷◌, SFits}
use Rattle.std.specs.Int.{w128}
use Rattle.std.proofs.lemmas.Int.{ints, by_lt_z}
use Rattle.book_model.specs.Interval.{Interval, between, ◌⊆◌}
use Rattle.book_model.proofs.Bounds.{◌≼◌, known, ◌⊞◌, ◌⊠◌, times as naturally, le_by, le_over}
use Rattle.book_model.proofs.Intervals.{within_trans}
use Rattle.book_model.proofs.Ring.{at, lit, ◌⊕◌, ◌⊗◌}
use Rattle.book_model.specs.declared.polynomial.PeriodicTerm.{PeriodicTerm}
use Rattle.book_model.specs.programs.Leading.{units_of_56}
use Rattle.trig_series.proofs.OctantLemmas.{order_at}
use Rattle.periodic_terms.specs.Turning.{AreNear, HasReach, radius_to, reach_to, sizes_to}
use Rattle.periodic_terms.specs.declared.units.Days56.{Days56}
use Rattle.periodic_terms.proofs.SumsByTime.{around, radius_is}

enough : (radius reach sizes slope all w r : ℤ) → (radius *ℤ pos 20819250000000)
    ≤ℤ (reach *ℤ w +ℤ sizes *ℤ pos (28 * 20819250000000))
    → (reach *ℤ pos (2 ^ 32)) ≤ℤ (slope *ℤ pos 20819250000000) → sizes ≤ℤ all → pos 0 ≤ℤ w
    → (w *ℤ slope +ℤ all *ℤ pos (28 * 2 ^ 32)) ≤ℤ (r *ℤ pos (2 ^ 32)) → radius ≤ℤ r
enough radius reach sizes slope all w r a b c d e =
    le_over (radius ∷ reach ∷ sizes ∷ slope ∷ all ∷ w ∷ r ∷ [])
    ((at 0 ⊗ lit (pos 20819250000000) ≼ at 1 ⊗ at 5 ⊕ at 2 ⊗ lit (pos (28 * 20819250000000))) ∷
    (at 1 ⊗ lit (pos (2 ^ 32)) ≼ at 3 ⊗ lit (pos 20819250000000)) ∷ (at 2 ≼ at 4) ∷ (lit (pos 0) ≼ at 5)
    ∷ (at 5 ⊗ at 3 ⊕ at 4 ⊗ lit (pos (28 * 2 ^ 32)) ≼ at 6 ⊗ lit (pos (2 ^ 32))) ∷ [])
    (lit (pos (2 ^ 32 * 20819250000000))) (at 0) (at 6)
    (naturally (2 ^ 32) ⊠ known 0 ⊞ known 3 ⊠ known 1 ⊞ naturally (28 * 2 ^ 32 * 20819250000000) ⊠ known 2
    ⊞ naturally 20819250000000 ⊠ known 4) refl
    (omega (arith, ints))
    (a, (b, (c, (d, (e, tt)))))

pub span_holds : (vs : List PeriodicTerm) (w slope sizes : ℕ) (i : Interval) (s r lo hi : ℤ) → HasReach vs slope sizes
    → (pos w *ℤ pos slope +ℤ pos sizes *ℤ pos (28 * 2 ^ 32)) ≤ℤ (r *ℤ pos (2 ^ 32)) → lo ≡ s -ℤ r → hi ≡ s +ℤ r
    → i ⊆ around s (radius_to vs w (length vs)) → i ⊆ between (units_of_56 lo) (units_of_56 hi)
span_holds vs w slope sizes i s r lo hi h k e f g =
    let l = enough (pos (radius_to vs w (length vs))) (pos (reach_to vs (length vs))) (pos (sizes_to vs (length vs)))
    (pos slope) (pos sizes) (pos w) r
    (radius_is vs w (length vs)) h.reach h.total (omega (arith, ints)) k in
    within_trans g (record {
      endpoints = (
        order_at lo _ (omega (arith, ints, l, e)),
        order_at _ hi (omega (arith, ints, l, f)),
      );
    })

-- ---- how wide the sum is
twice : (w slope d : ℤ) → (pos 2 *ℤ w) ≤ℤ d → pos 0 ≤ℤ slope → (pos 2 *ℤ (w *ℤ slope)) ≤ℤ (d *ℤ slope)
twice w slope d h n =
    le_by (w ∷ slope ∷ d ∷ []) ((lit (pos 2) ⊗ at 0 ≼ at 2) ∷ (lit (pos 0) ≼ at 1) ∷ []) (lit (pos 2) ⊗ (at 0 ⊗ at 1))
    (at 2 ⊗ at 1)
    (known 0 ⊠ known 1) refl (h, (n, tt))

both_endpoints : (p q z r s lo hi : ℤ) → (pos 2 *ℤ p) ≤ℤ q
    → (r *ℤ pos (2 ^ 32)) ≤ℤ ((p +ℤ z *ℤ pos (28 * 2 ^ 32)) +ℤ pos (2 ^ 32)) → lo ≡ s -ℤ r
    → hi ≡ s +ℤ r → ((hi -ℤ lo) *ℤ pos (2 ^ 32)) ≤ℤ (q +ℤ (z *ℤ pos 28 +ℤ pos 1) *ℤ pos (2 ^ 33))
both_endpoints p q z r s lo hi h k e f = omega (arith, ints, h, k, e, f)

pub sum_is_narrow : (w slope sizes : ℕ) (first last s r lo hi : ℤ)
    → (pos 2 *ℤ pos w) ≤ℤ ((last -ℤ first) +ℤ pos (2 ^ 9))
    → (r *ℤ pos (2 ^ 32)) ≤ℤ ((pos (w * slope) +ℤ pos sizes *ℤ pos (28 * 2 ^ 32)) +ℤ pos (2 ^ 32)) → lo ≡ s -ℤ r
    → hi ≡ s +ℤ r
    → ((hi -ℤ lo) *ℤ pos (2 ^ 32)) ≤ℤ (((last -ℤ first) +ℤ pos (2 ^ 9)) *ℤ pos slope
    +ℤ (pos sizes *ℤ pos 28 +ℤ pos 1) *ℤ pos (2 ^ 33))
sum_is_narrow w slope sizes first last s r lo hi d k e f =
    let t = twice (pos w) (pos slope) ((last -ℤ first) +ℤ pos (2 ^ 9)) d (omega (arith, ints)) in
    both_endpoints (pos (w * slope)) _ (pos sizes) r s lo hi t k e f

-- ---- how far days are from a middle
-- what fits where days within 2^20 of 0 are measured from a middle
pub record MiddleFits (mid lo hi : ℤ) : Type 0 where
  pub middle : SFits w128 mid
  pub first : SFits w128 lo
  pub last : SFits w128 hi
  pub parts : SFits w128 (mid *ℤ pos 256)
  pub before : SFits w128 (mid *ℤ pos 256 -ℤ lo)
  pub after : SFits w128 (hi -ℤ mid *ℤ pos 256)

pub middle_fits : (mid lo hi : ℤ) → neg_ℤ (pos (2 ^ 76)) ≤ℤ lo → hi ≤ℤ pos (2 ^ 76) → neg_ℤ (pos (2 ^ 68)) ≤ℤ mid
    → mid ≤ℤ pos (2 ^ 68)
    → lo ≤ℤ hi → MiddleFits mid lo hi
middle_fits mid lo hi a b l u o = record {
  middle = omega (arith, ints, l, u);
  first = omega (arith, ints, a, b, o);
  last = omega (arith, ints, a, b, o);
  parts = omega (arith, ints, l, u);
  before = omega (arith, ints, a, b, l, u, o);
  after = omega (arith, ints, a, b, l, u, o);
}

pub near_by : (mid lo hi : ℤ) (o : Option Days56) → lo ≤ℤ hi → neg_ℤ (pos (2 ^ 68)) ≤ℤ mid → mid ≤ℤ pos (2 ^ 68)
    → IfSome o (λ w. (mid *ℤ pos 256 -ℤ lo) ≤ℤ pos w.0) → IfSome o (λ w. (hi -ℤ mid *ℤ pos 256) ≤ℤ pos w.0)
    → IfSome o (λ w. AreNear mid w.0 lo hi)
near_by mid lo hi None o l u b a = b
near_by mid lo hi (Some w) o l u b a =
    record { ordered = o; above = omega (arith, ints, b); below = omega (arith, ints, a); least = l; greatest = u }

pub half_by : (mid lo hi : ℤ) (o : Option Days56) → (mid *ℤ pos (2 ^ 9)) ≤ℤ (lo +ℤ hi)
    → (lo +ℤ hi) ≤ℤ (mid *ℤ pos (2 ^ 9) +ℤ pos (2 ^ 9))
    → IfSome o (λ w. (d : ℤ) → (mid *ℤ pos 256 -ℤ lo) ≤ℤ d → (hi -ℤ mid *ℤ pos 256) ≤ℤ d → pos w.0 ≤ℤ d)
    → IfSome o (λ w. (pos 2 *ℤ pos w.0) ≤ℤ ((hi -ℤ lo) +ℤ pos (2 ^ 9)))
half_by mid lo hi None b c h = h
half_by mid lo hi (Some w) b c h =
    by_lt_z (mid *ℤ pos 256 -ℤ lo) (hi -ℤ mid *ℤ pos 256)
    (λ l. let k = h (hi -ℤ mid *ℤ pos 256) (omega (arith, ints, l)) (omega (arith, ints)) in omega
    (arith, ints, k, b, c))
    (λ l. let k = h (mid *ℤ pos 256 -ℤ lo) (omega (arith, ints)) (omega (arith, ints, l)) in omega
    (arith, ints, k, b, c))

-- A sum of rows as a span: how far from 0 it may be at most, to which it is cut, and its endpoints in parts of 2^-56. A
-- quotient that is rounded down lies below, and one more above. A cut goes by `clamps`, the arithmetic of `min` and
-- `max`, and loses nothing, since the sum lies between plus and minus its sizes anyway. How wide a sum is comes from
-- the radius, whose products are bounded one by one and then added, so that no goal has two products of unknowns.
use Rattle.std.proofs.Common.{mul-le-mul, refl, ◌≡◌, ℕ, ◌+◌, ◌*◌, ◌/◌, ◌-◌, ◌^◌, ◌≤◌, arith, neg_ℤ, ℤ, pos, ◌+ℤ◌, ◌-ℤ◌}
use Rattle.std.proofs.Common.{◌*ℤ◌, ◌≤ℤ◌, ◌<ℤ◌, [], ◌∷◌}
use Rattle.std.specs.Int.{int_max, int_min}
use Rattle.std.proofs.lemmas.Int.{ints, clamps}
use Rattle.book_model.specs.Fraction.{◌≤F◌}
use Rattle.book_model.specs.Interval.{Interval, everything, between, ◌⊆◌}
use Rattle.book_model.proofs.Fractions.{le_trans}
use Rattle.book_model.proofs.Intervals.{within_trans}
use Rattle.book_model.proofs.Ring.{at, ◌⊕◌, ◌⊗◌, ring}
use Rattle.book_model.specs.programs.Leading.{units_of_56}
use Rattle.trig_series.proofs.OctantLemmas.{by_max, by_min}
use Rattle.periodic_terms.specs.Multiples.{in_93, around_93, most_of, radius_of, spread_by}
use Rattle.periodic_terms.specs.Widths.{AreTurnsWithin, reach_of, wide_of}
use Rattle.periodic_terms.proofs.TermRows.{order_93}
use Rattle.periodic_terms.proofs.TermSums.{nat_eq}
use Rattle.periodic_terms.specs.declared.mean.MeanFactors.{MeanFactors}
use Rattle.periodic_terms.specs.declared.mean.MeanTurns.{MeanTurns}
use Rattle.periodic_terms.specs.declared.term_sums.RowSums.{RowSums}

pub span_holds : (lo hi a b : ℤ) → (a *ℤ pos (2 ^ 37)) ≤ℤ lo → hi <ℤ (b *ℤ pos (2 ^ 37) +ℤ pos (2 ^ 37))
    → between (in_93 0 lo) (in_93 0 hi) ⊆ between (units_of_56 a) (units_of_56 (b +ℤ pos 1))
span_holds lo hi a b l u = record {
  endpoints = (
    record { cross = omega (arith, ints, l) },
    record { cross = omega (arith, ints, u) },
  );
}

pub parts_hold : (lo hi p q a b : ℤ) → (p *ℤ pos (2 ^ 37)) ≤ℤ lo → hi <ℤ (q *ℤ pos (2 ^ 37) +ℤ pos (2 ^ 37))
    → (a *ℤ pos 100000) ≤ℤ p
    → q <ℤ (b *ℤ pos 100000 +ℤ pos 100000)
    → between (in_93 99999 lo) (in_93 99999 hi) ⊆ between (units_of_56 a) (units_of_56 (b +ℤ pos 1))
parts_hold lo hi p q a b l u m v = record {
  endpoints = (
    record { cross = omega (arith, ints, l, m) },
    record { cross = omega (arith, ints, u, v) },
  );
}

pub sum_inside : (u : ℕ) (t : MeanTurns) (i : Interval) (s r : ℤ) (a b : RowSums) → a ≡ b → r ≡ pos (radius_of t b)
    → i ⊆ around_93 u s (radius_of t a)
    → i ⊆ between (in_93 u (s -ℤ r)) (in_93 u (s +ℤ r))
sum_inside u t i s r a b e h k = rw h (rw e at k)

-- ---- an endpoint is no further out than a sum may be
within_cut : (u : ℕ) (m : ℕ) (lo hi : ℤ) (i : Interval) → i ⊆ between (in_93 u lo) (in_93 u hi)
    → i ⊆ around_93 u (pos 0) m
    → i ⊆ between (in_93 u (int_min (int_max lo (neg_ℤ (pos m))) (pos m)))
    (in_93 u (int_min (int_max hi (neg_ℤ (pos m))) (pos m)))
within_cut u m lo hi everything h k = absurd h.endpoints
within_cut u m lo hi (between a b) h k =
    let least : in_93 u (neg_ℤ (pos m)) ≤F a = le_trans _ _ a
    (order_93 u (neg_ℤ (pos m)) (pos 0 -ℤ pos m) (omega (arith, ints))) k.endpoints.0 in
    let most : b ≤F in_93 u (pos m) = le_trans b _ _ k.endpoints.1
    (order_93 u (pos 0 +ℤ pos m) (pos m) (omega (arith, ints))) in
    let low = by_max lo (neg_ℤ (pos m)) (int_max lo (neg_ℤ (pos m))) (λ z. in_93 u z ≤F a) refl h.endpoints.0 least in
    let high : b ≤F in_93 u (int_max hi (neg_ℤ (pos m))) = le_trans b (in_93 u hi) _ h.endpoints.1
    (order_93 u hi _ (omega (arith, ints, clamps))) in
    record {
      endpoints = (
        le_trans _ _ a (order_93 u _ (int_max lo (neg_ℤ (pos m))) (omega (arith, ints, clamps))) low,
        by_min (int_max hi (neg_ℤ (pos m))) (pos m) (int_min (int_max hi (neg_ℤ (pos m))) (pos m)) (λ z. b ≤F in_93 u z)
            refl high most,
      );
    }

pub cut_inside : (u m : ℕ) (lo hi p q r : ℤ) (i : Interval) → r ≡ pos m → p ≡ int_min (int_max lo (neg_ℤ r)) r
    → q ≡ int_min (int_max hi (neg_ℤ r)) r
    → i ⊆ between (in_93 u lo) (in_93 u hi) → i ⊆ around_93 u (pos 0) m → i ⊆ between (in_93 u p) (in_93 u q)
cut_inside u m lo hi p q r i e f g h k = rw (f, g, e) (within_cut u m lo hi i h k)

pub most_inside : (u m : ℕ) (r : ℤ) (i : Interval) → r ≡ pos m → i ⊆ around_93 u (pos 0) m
    → i ⊆ between (in_93 u (pos 0 -ℤ r)) (in_93 u r)
most_inside u m r i e k = rw e (within_trans k (record {
  endpoints =
      (order_93 u _ _ (omega (arith, ints)), order_93 u _ _ (omega (arith, ints)));
}))

pub cut_apart : (lo hi m p q : ℤ) → pos 0 ≤ℤ m → lo ≤ℤ hi → p ≡ int_min (int_max lo (neg_ℤ m)) m
    → q ≡ int_min (int_max hi (neg_ℤ m)) m
    → (p ≤ℤ q) × ((q -ℤ p) ≤ℤ (hi -ℤ lo))
cut_apart lo hi m p q z o e f = (omega (arith, ints, clamps, z, o, e, f), omega (arith, ints, clamps, z, o, e, f))

-- ---- how wide it is
half_less : (h v : ℕ) → h * 16 ≤ v + 2 ^ 11 → h / 1824 + 1 ≤ (v + 2 ^ 11) / 29184 + 1
half_less h v l = omega (arith, l)

five_quarters : (g n m : ℕ) → g ≤ 5 * 2 ^ 35 → n ≤ m → g * n ≤ 5 * 2 ^ 35 * m
five_quarters g n m a b = mul-le-mul a b

spread_less : (s : RowSums) (t : MeanTurns) (v : ℕ) → AreTurnsWithin v t
    → spread_by s.elongation t.elongation + spread_by s.sun_anomaly t.sun_anomaly
    + spread_by s.moon_anomaly t.moon_anomaly
    + spread_by s.latitude_argument t.latitude_argument + 11 * s.sizes ≤ reach_of s * ((v + 2 ^ 11) / 29184 + 1)
    + 11 * s.sizes
spread_less s t v h =
    let x = (v + 2 ^ 11) / 29184 + 1 in
    let d = mul-le-mul (same s.elongation) (half_less t.elongation.half.count v h.elongation.narrow) in
    let m = mul-le-mul (same s.sun_anomaly) (half_less t.sun_anomaly.half.count v h.sun_anomaly.narrow) in
    let n = mul-le-mul (same s.moon_anomaly) (half_less t.moon_anomaly.half.count v h.moon_anomaly.narrow) in
    let f = mul-le-mul (same s.latitude_argument)
    (half_less t.latitude_argument.half.count v h.latitude_argument.narrow) in
    together_less (spread_by s.elongation t.elongation) (spread_by s.sun_anomaly t.sun_anomaly)
    (spread_by s.moon_anomaly t.moon_anomaly)
    (spread_by s.latitude_argument t.latitude_argument) (s.elongation * x) (s.sun_anomaly * x) (s.moon_anomaly * x)
    (s.latitude_argument * x) s.sizes
    (reach_of s * x) (taken_together s.elongation s.sun_anomaly s.moon_anomaly s.latitude_argument x) d m n f
  where
    same : (a : ℕ) → a ≤ a
    same a = omega arith

    taken_together : (a b c d x : ℕ) → (a + b + c + d) * x ≡ a * x + b * x + c * x + d * x
    taken_together a b c d x = nat_eq _ _ (ring (pos a ∷ pos b ∷ pos c ∷ pos d ∷ pos x ∷ [])
        ((at 0 ⊕ at 1 ⊕ at 2 ⊕ at 3) ⊗ at 4)
        (at 0 ⊗ at 4 ⊕ at 1 ⊗ at 4 ⊕ at 2 ⊗ at 4 ⊕ at 3 ⊗ at 4) refl)

    together_less : (a b c d p q r s z k : ℕ) → k ≡ p + q + r + s → a ≤ p → b ≤ q → c ≤ r → d ≤ s
        → a + b + c + d + 11 * z ≤ k + 11 * z
    together_less a b c d p q r s z k e f g h i = omega (arith, e, f, g, h, i)

factor_less : (p w : ℕ) → w ≤ 2 ^ 18 → p * ((w + 1) * 2 ^ 37) ≤ p * 2 ^ 56
factor_less p w h = mul-le-mul (same p) (small w h)
  where
    same : (a : ℕ) → a ≤ a
    same a = omega arith

    small : (w : ℕ) → w ≤ 2 ^ 18 → (w + 1) * 2 ^ 37 ≤ 2 ^ 56
    small w h = omega (arith, h)

pub radius_less : (s : RowSums) (t : MeanTurns) (v : ℕ) → AreTurnsWithin v t → 2 * radius_of t s ≤ wide_of s v
radius_less s t v h =
    twice (t.factors.greatest.0 * _) (s.powered * ((t.factors.wide.0 + 1) * 2 ^ 37)) _ s.powered
    (five_quarters t.factors.greatest.0 _ _ t.factors.small (spread_less s t v h))
    (factor_less s.powered t.factors.wide.0 h.factors)
  where
    twice : (a b n p : ℕ) → a ≤ 5 * 2 ^ 35 * n → b ≤ p * 2 ^ 56 → 2 * (a + b) ≤ 5 * 2 ^ 36 * n + p * 2 ^ 57
    twice a b n p h k = omega (arith, h, k)

-- ---- the endpoints of a sum
pub apart_is : (s r : ℤ) (n : ℕ) → r ≡ pos n → (s +ℤ r) -ℤ (s -ℤ r) ≡ pos (2 * n)
apart_is s r n e = omega (arith, ints, e)

pub summed_most : (u : ℕ) (f : MeanFactors) (i : Interval) (a b : RowSums) → a ≡ b
    → i ⊆ around_93 u (pos 0) (most_of f a) → i ⊆ around_93 u (pos 0) (most_of f b)
summed_most u f i a b e h = rw e at h

pub wide_enough : (lo hi a b : ℤ) (r w : ℕ) → (b -ℤ a) ≤ℤ (hi -ℤ lo) → hi -ℤ lo ≡ pos r → r ≤ w → (b -ℤ a) ≤ℤ pos w
wide_enough lo hi a b r w h e l = omega (arith, ints, h, e, l)

pub least_cut : (lo m p : ℤ) (n : ℕ) → m ≡ pos n → p ≡ int_min (int_max lo (neg_ℤ m)) m → neg_ℤ (pos n) ≤ℤ p
least_cut lo m p n e f = omega (arith, ints, clamps, e, f)

pub greatest_cut : (hi m q : ℤ) (n : ℕ) → m ≡ pos n → q ≡ int_min (int_max hi (neg_ℤ m)) m → q ≤ℤ pos n
greatest_cut hi m q n e f = omega (arith, ints, clamps, e, f)

-- ---- no sum is further out than its sizes, with a quarter of those that have a power
pub most_less : (f : MeanFactors) (s : RowSums) → most_of f s ≤ (s.sizes * 2 ^ 37 + s.powered * 2 ^ 35) * 2 ^ 56
most_less f s =
    added (s.sizes * 2 ^ 37) (s.powered * (f.greatest.0 - 2 ^ 37)) (s.powered * 2 ^ 35)
    (mul-le-mul (same s.powered) (over f.greatest.0 f.small))
  where
    same : (a : ℕ) → a ≤ a
    same a = omega arith

    over : (g : ℕ) → g ≤ 5 * 2 ^ 35 → g - 2 ^ 37 ≤ 2 ^ 35
    over g h = omega (arith, h)

    added : (a b c : ℕ) → b ≤ c → (a + b) * 2 ^ 56 ≤ (a + c) * 2 ^ 56
    added a b c h = omega (arith, h)

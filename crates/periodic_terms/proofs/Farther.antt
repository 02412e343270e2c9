-- The sine of what lies further from an angle, from the sines at that angle: in three steps of less than an octant
-- each; and further than that it is whatever a sine may be.
use Rattle.std.proofs.Common.{◌≡◌, ℕ, ◌+◌, ◌-◌, ◌*◌, ◌/◌, ◌^◌, ◌≤◌, refl, arith, unsigned_abs, neg_ℤ, ℤ, pos, ◌+ℤ◌}
use Rattle.std.proofs.Common.{◌-ℤ◌, ◌*ℤ◌, ◌≤ℤ◌, ◌<ℤ◌}
use Rattle.std.specs.Int.{int_max, int_min}
use Rattle.std.proofs.lemmas.Int.{ints, clamps, by_lt_z}
use Rattle.book_model.specs.Fraction.{Fraction, ◌≈◌, floor_quotient}
use Rattle.book_model.specs.Interval.{Interval, between, IsProper, ◌⊆◌}
use Rattle.book_model.proofs.Floors.{IsFloorQuotient, floor_quotient_is}
use Rattle.book_model.proofs.Intervals.{within_trans}
use Rattle.book_model.specs.programs.Leading.{units_of_56}
use Rattle.book_model.specs.numbers.Octants.{octant_of_turn, sine_at, first_octant, last_octant, sine_of_degrees}
use Rattle.book_model.proofs.DegreeSines.{degree_sines}
use Rattle.encl_core.specs.parts.TheConstants.{OCTANT}
use Rattle.trig_series.proofs.AngleLemmas.{at_in_turn}
use Rattle.trig_series.proofs.OctantLemmas.{in_holds, over_holds, first_bounds, last_bounds, order_at}
use Rattle.trig_series.proofs.SineLemmas.{all_hold}
use Rattle.periodic_terms.specs.Turning.{HasPoint}
use Rattle.periodic_terms.proofs.Around.{IsAngleNear, point_near}
use Rattle.periodic_terms.proofs.Spreads.{wider, point_holds}

-- a number lies in its octant
record IsIn (q p : ℤ) : Type 0 where
  from : (q *ℤ pos OCTANT) ≤ℤ p
  to : p ≤ℤ (q *ℤ pos OCTANT +ℤ pos OCTANT)

abbrev octant_at : ℤ → ℤ
octant_at p = floor_quotient p (OCTANT - 1)

is_in : (p : ℤ) → IsIn (octant_at p) p
is_in p = by_floor (floor_quotient p (OCTANT - 1)) (floor_quotient_is p (OCTANT - 1))
  where
    by_floor : (f : ℤ) → IsFloorQuotient f p (OCTANT - 1) → IsIn f p
    by_floor f h = record { from = omega (arith, ints, h.not_above); to = omega (arith, ints, h.close) }

abbrev beyond : (q p : ℤ) → ℕ
beyond q p = unsigned_abs (p -ℤ q *ℤ pos OCTANT)

-- one step
step : (k q : ℤ) (lo hi w m a p : ℤ) → IsIn k a → IsIn q p → p ≤ℤ (a +ℤ w) → (a -ℤ w) ≤ℤ p → w <ℤ pos OCTANT
    → (w +ℤ pos 340) ≤ℤ (pos 57 *ℤ m)
    → HasPoint (octant_of_turn k) (beyond k a) lo hi → HasPoint (octant_of_turn q) (beyond q p) (lo -ℤ m) (hi +ℤ m)
step k q lo hi w m a p i j u l s r h =
    let f : pos (beyond k a) ≡ a -ℤ k *ℤ pos OCTANT = omega (arith, ints, i.from) in
    point_near k q (beyond k a) lo hi w m p (omega (arith, ints, f, i.to)) j.from j.to (omega (arith, ints, f, u))
    (omega (arith, ints, f, l)) s r h

-- three of them
three : (k q : ℤ) (lo hi w v m n a p : ℤ) → IsIn k a → IsIn q p → p ≤ℤ (a +ℤ w) → (a -ℤ w) ≤ℤ p
    → (w +ℤ pos 9) ≤ℤ (pos 3 *ℤ v) → v <ℤ pos OCTANT
    → (v +ℤ pos 340) ≤ℤ (pos 57 *ℤ n) → (pos 3 *ℤ n) ≤ℤ m → HasPoint (octant_of_turn k) (beyond k a) lo hi
    → HasPoint (octant_of_turn q) (beyond q p) (lo -ℤ m) (hi +ℤ m)
three k q lo hi w v m n a p i j u l t s r c h = by_third (floor_quotient (p -ℤ a) 2) (floor_quotient_is (p -ℤ a) 2)
  where
    by_third : (f : ℤ) → IsFloorQuotient f (p -ℤ a) 2 → HasPoint (octant_of_turn q) (beyond q p) (lo -ℤ m) (hi +ℤ m)
    by_third f g =
        let b = a +ℤ f in
        let e = (a +ℤ f) +ℤ f in
        let x = step k (octant_at b) lo hi v n a b i (is_in b) (omega (arith, ints, g.not_above, u, t))
        (omega (arith, ints, g.close, l, t)) s r h in
        let y = step (octant_at b) (octant_at e) _ _ v n b e (is_in b) (is_in e)
        (omega (arith, ints, g.not_above, u, t)) (omega (arith, ints, g.close, l, t)) s r
        x in
        let z = step (octant_at e) q _ _ v n e p (is_in e) j (omega (arith, ints, g.close, g.not_above, u, l, t))
        (omega (arith, ints, g.close, g.not_above, u, l, t)) s r y in
        wider (octant_of_turn q) (beyond q p) _ _ _ _ (omega (arith, ints, c)) (omega (arith, ints, c)) z

-- ---- the sine from a to b, of each point of which its endpoints are known
at_point : (n : ℕ) (q p lo hi : ℤ) → 40 ≤ n → IsIn q p → HasPoint (octant_of_turn q) (beyond q p) lo hi → (z : Fraction)
    → z ≈ units_of_56 p
    → sine_at n q z ⊆ between (units_of_56 lo) (units_of_56 hi)
at_point n q p lo hi deep i h z same =
    let f : pos (beyond q p) ≡ p -ℤ q *ℤ pos OCTANT = omega (arith, ints, i.from) in
    at_in_turn n q (pos (octant_of_turn q)) p z _ refl same
    (λ y t. point_holds (octant_of_turn q) n (beyond q p) y _ _ deep (omega (arith, ints, f, i.to)) (rw f t) h)

over_points : (n : ℕ) (a b lo hi : ℤ) → 40 ≤ n → a ≤ℤ b
    → ((q p : ℤ) → IsIn q p → a ≤ℤ p → p ≤ℤ b → HasPoint (octant_of_turn q) (beyond q p) lo hi)
    → sine_of_degrees n (between (units_of_56 a) (units_of_56 b)) ⊆ between (units_of_56 lo) (units_of_56 hi)
over_points n a b lo hi deep o f =
    let first = first_bounds a in
    let last = last_bounds b in
    over_holds n a b (first_octant (units_of_56 a)) (last_octant (units_of_56 b)) _ _ deep o refl refl
    (λ q from to.
    let p = int_max (q *ℤ pos OCTANT) a in
    let t = int_min (q *ℤ pos OCTANT +ℤ pos OCTANT) b in
    let x : a ≤ℤ (q *ℤ pos OCTANT +ℤ pos OCTANT) = omega (arith, ints, first.1, from) in
    let y : (q *ℤ pos OCTANT) ≤ℤ b = omega (arith, ints, last.0, to) in
    let ip : IsIn q p = record { from = omega (arith, ints, clamps); to = omega (arith, ints, clamps, x) } in
    let it : IsIn q t = record { from = omega (arith, ints, clamps, y); to = omega (arith, ints, clamps) } in
    in_holds n q a b p t lo hi lo hi lo hi refl refl
    (at_point n q p lo hi deep ip (f q p ip (omega (arith, ints, clamps)) (omega (arith, ints, clamps, y, o))))
    (at_point n q t lo hi deep it (f q t it (omega (arith, ints, clamps, x, o)) (omega (arith, ints, clamps))))
    (omega (arith, ints, clamps)) (omega (arith, ints, clamps)))

-- ---- within any distance of d degrees into octant k, at which the sine is s, or off by c
all_of : (n : ℕ) (i : Interval) (lo hi : ℤ) → IsProper i → lo ≤ℤ neg_ℤ (pos (2 ^ 56)) → pos (2 ^ 56) ≤ℤ hi
    → sine_of_degrees n i ⊆ between (units_of_56 lo) (units_of_56 hi)
all_of n i lo hi p l u =
    within_trans (all_hold n i (neg_ℤ (pos (2 ^ 56))) (pos (2 ^ 56)) p refl refl)
    (record { endpoints = (order_at lo _ l, order_at _ hi u) })

few_thirds : (x : ℕ) → pos x <ℤ pos (3 * OCTANT - 30) → pos (x / 3 + 4) <ℤ pos OCTANT
few_thirds x h = omega (arith, ints, h)

pub sine_far : (n : ℕ) (i : Interval) (k : ℤ) (d x m : ℕ) (s a b : ℤ) → 40 ≤ n → IsProper i
    → i ⊆ between (units_of_56 a) (units_of_56 b)
    → IsAngleNear k d (s -ℤ pos 3) (s +ℤ pos 3) → neg_ℤ (pos (2 ^ 56)) ≤ℤ s → s ≤ℤ pos (2 ^ 56) → a ≤ℤ b
    → b ≤ℤ ((k *ℤ pos OCTANT +ℤ pos d) +ℤ pos x)
    → ((k *ℤ pos OCTANT +ℤ pos d) -ℤ pos x) ≤ℤ a → x + 1300 ≤ 57 * m
    → sine_of_degrees n i ⊆ between (units_of_56 ((s -ℤ pos 3) -ℤ pos m)) (units_of_56 ((s +ℤ pos 3) +ℤ pos m))
sine_far n i k d x m s a b deep p h j l u o above below r =
    by_lt_z (pos x) (pos (3 * OCTANT - 30))
    (λ t. within_trans (degree_sines.within n p h)
    (over_points n a b _ _ deep o
    (λ q y iq from to.
    let c = k *ℤ pos OCTANT +ℤ pos d in
    let e : pos (beyond k c) ≡ pos d = omega (arith, ints) in
    let g : beyond k c ≡ d = omega (arith, ints, e) in
    three k q _ _ (pos x) (pos (x / 3 + 4)) (pos m) (pos ((x / 3 + 400) / 57)) c y
    (record { from = omega (arith, ints); to = omega (arith, ints, j.degrees) }) iq (omega (arith, ints, to, above))
    (omega (arith, ints, from, below))
    (omega (arith, ints)) (few_thirds x t) (omega (arith, ints)) (omega (arith, ints, r)) (rw g j.point))))
    (λ t. all_of n i _ _ p (omega (arith, ints, t, r, u)) (omega (arith, ints, t, r, l)))

-- The sine of what lies near an angle, from the sines at that angle. Angles are counted in octants and degrees into
-- them, and near is less than an octant: so the other angle lies in the same octant, in the next or in the one before,
-- and in the latter two cases the way goes over the angle where the two meet (`Edges`), which costs four parts of
-- 2^-56. Within an octant `Spreads` says how far the sines move. The model takes the sine of an interval octant by
-- octant, in each by its two ends: so what holds of the sines at those angles (`at_near`) holds of the interval.
use Rattle.std.proofs.Common.{◌≡◌, ℕ, ◌+◌, ◌-◌, ◌/◌, ◌≤◌, refl, arith, unsigned_abs, ℤ, pos, ◌+ℤ◌, ◌-ℤ◌, ◌*ℤ◌, ◌≤ℤ◌}
use Rattle.std.proofs.Common.{◌<ℤ◌}
use Rattle.std.specs.Int.{int_max, int_min}
use Rattle.std.proofs.lemmas.Int.{ints, clamps, by_lt_z}
use Rattle.book_model.specs.Fraction.{Fraction, ◌≈◌}
use Rattle.book_model.specs.Interval.{Interval, between, IsProper, ◌⊆◌}
use Rattle.book_model.proofs.Intervals.{within_trans}
use Rattle.book_model.specs.programs.Leading.{units_of_56}
use Rattle.book_model.specs.numbers.Octants.{octant_of_turn, sine_at, first_octant, last_octant, sine_of_degrees}
use Rattle.book_model.proofs.DegreeSines.{degree_sines}
use Rattle.encl_core.specs.parts.TheConstants.{OCTANT}
use Rattle.trig_series.proofs.AngleLemmas.{at_in_turn}
use Rattle.trig_series.proofs.OctantLemmas.{in_holds, over_holds, first_bounds, last_bounds}
use Rattle.periodic_terms.specs.Turning.{HasPoint}
use Rattle.periodic_terms.proofs.Spreads.{wider, spreads, point_holds}
use Rattle.periodic_terms.proofs.Edges.{following, preceding}

-- a 57th, rounded up
abbrev part_of : ℕ → ℤ
part_of d = pos ((d + 56) / 57)

-- in the same octant
same_octant : (k : ℤ) (d e : ℕ) (lo hi w m : ℤ) → d ≤ OCTANT → e ≤ OCTANT → (pos e -ℤ pos d) ≤ℤ w
    → (pos d -ℤ pos e) ≤ℤ w → (w +ℤ pos 340) ≤ℤ (pos 57 *ℤ m)
    → HasPoint (octant_of_turn k) d lo hi → HasPoint (octant_of_turn k) e (lo -ℤ m) (hi +ℤ m)
same_octant k d e lo hi w m v u a b r h = spreads (octant_of_turn k) d e lo hi m v u
    (omega (arith, ints, a, r), omega (arith, ints, b, r)) h

-- in the next one
next_octant : (k : ℤ) (d e : ℕ) (lo hi w m : ℤ) → d ≤ OCTANT → e ≤ OCTANT → ((pos OCTANT -ℤ pos d) +ℤ pos e) ≤ℤ w
    → (w +ℤ pos 340) ≤ℤ (pos 57 *ℤ m)
    → HasPoint (octant_of_turn k) d lo hi → HasPoint (octant_of_turn (k +ℤ pos 1)) e (lo -ℤ m) (hi +ℤ m)
next_octant k d e lo hi w m v u a r h =
    let x = part_of (OCTANT - d) in
    let y = part_of e in
    let f = spreads (octant_of_turn k) d OCTANT lo hi x v (omega arith) (omega (arith, ints, v), omega (arith, ints, v))
    h in
    let g = following k (lo -ℤ x) (hi +ℤ x) f in
    let l = spreads (octant_of_turn (k +ℤ pos 1)) 0 e _ _ y (omega arith) u (omega (arith, ints), omega (arith, ints)) g
    in
    wider (octant_of_turn (k +ℤ pos 1)) e _ _ _ _ (omega (arith, ints, v, a, r)) (omega (arith, ints, v, a, r)) l

-- in the one before
last_octant_of : (k : ℤ) (d e : ℕ) (lo hi w m : ℤ) → d ≤ OCTANT → e ≤ OCTANT → ((pos OCTANT -ℤ pos e) +ℤ pos d) ≤ℤ w
    → (w +ℤ pos 340) ≤ℤ (pos 57 *ℤ m)
    → HasPoint (octant_of_turn (k +ℤ pos 1)) d lo hi → HasPoint (octant_of_turn k) e (lo -ℤ m) (hi +ℤ m)
last_octant_of k d e lo hi w m v u a r h =
    let x = part_of d in
    let y = part_of (OCTANT - e) in
    let f = spreads (octant_of_turn (k +ℤ pos 1)) d 0 lo hi x v (omega arith) (omega (arith, ints), omega (arith, ints))
    h in
    let g = preceding k (lo -ℤ x) (hi +ℤ x) f in
    let l = spreads (octant_of_turn k) OCTANT e _ _ y (omega arith) u (omega (arith, ints, u), omega (arith, ints, u)) g
    in
    wider (octant_of_turn k) e _ _ _ _ (omega (arith, ints, u, a, r)) (omega (arith, ints, u, a, r)) l

by_octant : (k q : ℤ) (d : ℕ) (lo hi : ℤ) → k ≡ q → HasPoint (octant_of_turn k) d lo hi
    → HasPoint (octant_of_turn q) d lo hi
by_octant k q d lo hi e h = rw e at h

-- at p degrees, which lie in octant q and within w of d degrees into octant k
pub point_near : (k q : ℤ) (d : ℕ) (lo hi w m p : ℤ) → d ≤ OCTANT → (q *ℤ pos OCTANT) ≤ℤ p
    → p ≤ℤ (q *ℤ pos OCTANT +ℤ pos OCTANT)
    → p ≤ℤ ((k *ℤ pos OCTANT +ℤ pos d) +ℤ w) → ((k *ℤ pos OCTANT +ℤ pos d) -ℤ w) ≤ℤ p → w <ℤ pos OCTANT
    → (w +ℤ pos 340) ≤ℤ (pos 57 *ℤ m)
    → HasPoint (octant_of_turn k) d lo hi → HasPoint (octant_of_turn q) (unsigned_abs (p -ℤ q *ℤ pos OCTANT)) (lo -ℤ m)
    (hi +ℤ m)
point_near k q d lo hi w m p v from to above below s r h =
    let e = unsigned_abs (p -ℤ q *ℤ pos OCTANT) in
    let f : pos e ≡ p -ℤ q *ℤ pos OCTANT = omega (arith, ints, from) in
    let u : e ≤ OCTANT = omega (arith, ints, f, to) in
    by_lt_z q k
    (λ l. let g : k ≡ q +ℤ pos 1 = omega (arith, ints, l, to, below, s, v) in
    last_octant_of q d e lo hi w m v u (omega (arith, ints, f, g, below)) r (by_octant k (q +ℤ pos 1) d lo hi g h))
    (λ l. by_lt_z k q
    (λ n. let g : k +ℤ pos 1 ≡ q = omega (arith, ints, n, from, above, s, v) in
    by_octant (k +ℤ pos 1) q e _ _ g (next_octant k d e lo hi w m v u (omega (arith, ints, f, g, above)) r h))
    (λ n. let g : k ≡ q = omega (arith, ints, l, n) in by_octant k q e _ _ g
    (same_octant k d e lo hi w m v u (omega (arith, ints, f, g, above)) (omega (arith, ints, f, g, below)) r h)))

at_near : (n : ℕ) (k q : ℤ) (d : ℕ) (lo hi w m p : ℤ) → 40 ≤ n → d ≤ OCTANT → (q *ℤ pos OCTANT) ≤ℤ p
    → p ≤ℤ (q *ℤ pos OCTANT +ℤ pos OCTANT)
    → p ≤ℤ ((k *ℤ pos OCTANT +ℤ pos d) +ℤ w) → ((k *ℤ pos OCTANT +ℤ pos d) -ℤ w) ≤ℤ p → w <ℤ pos OCTANT
    → (w +ℤ pos 340) ≤ℤ (pos 57 *ℤ m)
    → HasPoint (octant_of_turn k) d lo hi → (z : Fraction) → z ≈ units_of_56 p
    → sine_at n q z ⊆ between (units_of_56 (lo -ℤ m)) (units_of_56 (hi +ℤ m))
at_near n k q d lo hi w m p deep v from to above below s r h z same =
    let e = unsigned_abs (p -ℤ q *ℤ pos OCTANT) in
    let f : pos e ≡ p -ℤ q *ℤ pos OCTANT = omega (arith, ints, from) in
    at_in_turn n q (pos (octant_of_turn q)) p z _ refl same
    (λ y t. point_holds (octant_of_turn q) n e y _ _ deep (omega (arith, ints, f, to)) (rw f t)
    (point_near k q d lo hi w m p v from to above below s r h))

-- d degrees into octant k, at which the sines lie from lo to hi
pub record IsAngleNear (k : ℤ) (d : ℕ) (lo hi : ℤ) : Type 0 where
  pub degrees : d ≤ OCTANT
  pub point : HasPoint (octant_of_turn k) d lo hi

-- the sine from a to b, which lie within w of that
pub sine_between : (n : ℕ) (k : ℤ) (d : ℕ) (lo hi w m a b : ℤ) → 40 ≤ n → IsAngleNear k d lo hi → a ≤ℤ b
    → b ≤ℤ ((k *ℤ pos OCTANT +ℤ pos d) +ℤ w)
    → ((k *ℤ pos OCTANT +ℤ pos d) -ℤ w) ≤ℤ a
    → w <ℤ pos OCTANT → (w +ℤ pos 340) ≤ℤ (pos 57 *ℤ m) → sine_of_degrees n (between (units_of_56 a) (units_of_56 b))
    ⊆ between (units_of_56 (lo -ℤ m))
    (units_of_56 (hi +ℤ m))
sine_between n k d lo hi w m a b deep i o above below s r =
    let first = first_bounds a in
    let last = last_bounds b in
    over_holds n a b (first_octant (units_of_56 a)) (last_octant (units_of_56 b)) _ _ deep o refl refl
    (λ q from to.
    let p = int_max (q *ℤ pos OCTANT) a in
    let t = int_min (q *ℤ pos OCTANT +ℤ pos OCTANT) b in
    let x : a ≤ℤ (q *ℤ pos OCTANT +ℤ pos OCTANT) = omega (arith, ints, first.1, from) in
    let y : (q *ℤ pos OCTANT) ≤ℤ b = omega (arith, ints, last.0, to) in
    in_holds n q a b p t (lo -ℤ m) (hi +ℤ m) (lo -ℤ m) (hi +ℤ m) (lo -ℤ m) (hi +ℤ m) refl refl
    (at_near n k q d lo hi w m p deep i.degrees (omega (arith, ints, clamps)) (omega (arith, ints, clamps, x))
    (omega (arith, ints, clamps, y, o, above))
    (omega (arith, ints, clamps, below)) s r i.point)
    (at_near n k q d lo hi w m t deep i.degrees (omega (arith, ints, clamps, y)) (omega (arith, ints, clamps))
    (omega (arith, ints, clamps, above))
    (omega (arith, ints, clamps, x, o, below)) s r i.point)
    (omega (arith, ints, clamps)) (omega (arith, ints, clamps)))

-- and of any interval there
pub sine_near : (n : ℕ) (i : Interval) (k : ℤ) (d : ℕ) (lo hi w m a b : ℤ) → 40 ≤ n → IsProper i
    → i ⊆ between (units_of_56 a) (units_of_56 b)
    → IsAngleNear k d lo hi → a ≤ℤ b → b ≤ℤ ((k *ℤ pos OCTANT +ℤ pos d) +ℤ w)
    → ((k *ℤ pos OCTANT +ℤ pos d) -ℤ w) ≤ℤ a → w <ℤ pos OCTANT → (w +ℤ pos 340) ≤ℤ (pos 57 *ℤ m)
    → sine_of_degrees n i ⊆ between (units_of_56 (lo -ℤ m)) (units_of_56 (hi +ℤ m))
sine_near n i k d lo hi w m a b deep p h j o above below s r = within_trans (degree_sines.within n p h)
    (sine_between n k d lo hi w m a b deep j o above below s r)

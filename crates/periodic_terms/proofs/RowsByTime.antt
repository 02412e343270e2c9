-- What a row of periodic terms adds, from the sine at its turn in the middle of the days. The angle of the definition
-- is a sum of fractions, that of the code a binary angle, a count of parts of a turn: both are brought to parts of
-- 2^-56 degrees, where each rounding is an inequality between whole numbers, and these are added up by a certificate
-- (`le_over`). From the angle the sine follows by `sine_far`, and the row by its size.
use Rattle.std.proofs.Common.{◌<◌, ◌≡◌, ℕ, ◌+◌, ◌*◌, ◌/◌, ◌-◌, ◌^◌, ◌≤◌, refl, ap, arith, unsigned_abs, neg_ℤ, ℤ, pos}
use Rattle.std.proofs.Common.{negsuc, ◌+ℤ◌, ◌-ℤ◌, ◌*ℤ◌, ◌≤ℤ◌, ◌<ℤ◌, [], ◌∷◌}
use Rattle.std.proofs.lemmas.Int.{ints}
use Rattle.book_model.specs.Fraction.{Fraction, ◌≤F◌, whole, plus, times, floor_quotient}
use Rattle.book_model.specs.Interval.{Interval, between, IsProper, ◌⊆◌, sum, product, least, greatest}
use Rattle.book_model.proofs.Bounds.{◌≼◌, known, ◌⊞◌, ◌⊠◌, times as naturally, le_by, le_over}
use Rattle.book_model.proofs.Floors.{IsFloorQuotient, floor_quotient_is}
use Rattle.book_model.proofs.Fractions.{le_refl}
use Rattle.book_model.proofs.Intervals.{within_trans, within_refl, sum_within, product_within, plus_proper}
use Rattle.book_model.proofs.Intervals.{product_proper, least_keeps, greatest_keeps}
use Rattle.book_model.proofs.Ring.{at, lit, ◌⊕◌, ◌⊖◌, ◌⊗◌}
use Rattle.book_model.specs.programs.Leading.{units_of_56}
use Rattle.book_model.specs.declared.polynomial.PeriodicTerm.{PeriodicTerm}
use Rattle.book_model.specs.numbers.Expressions.{Expression, World, value, exactly}
use Rattle.book_model.specs.numbers.Fractions.{ten_millionths, daily_ten_millionths}
use Rattle.book_model.specs.numbers.Octants.{octant_of_turn, sine_of_degrees}
use Rattle.book_model.proofs.DegreeSines.{degree_sines}
use Rattle.book_model.proofs.Values.{value_proper}
use Rattle.encl_core.specs.parts.TheConstants.{OCTANT}
use Rattle.trig_series.proofs.KernelAngles.{product_endpoints}
use Rattle.trig_series.proofs.OctantLemmas.{order_at}
use Rattle.periodic_terms.specs.Turning.{HasPoint, octant_of, degrees_of, IsTurning, AreNear, turning_term_of}
use Rattle.periodic_terms.specs.Turning.{radius_of, turn_part, whole_turns}
use Rattle.periodic_terms.specs.declared.rows_by_time.TurningTerm.{TurningTerm}
use Rattle.periodic_terms.proofs.Around.{IsAngleNear}
use Rattle.periodic_terms.proofs.Farther.{sine_far}

-- ---- the angle, in parts of 2^-56 degrees
-- all that is known of a row: a is rate * mid, b the same of the turning rate, f its part in 2^-64 turns, and p the
-- degrees of phase and f
record Angle (phase turn a b f p y v w : ℤ) : Type 0 where
  phase_below : (turn *ℤ pos 3600000000) ≤ℤ (phase *ℤ pos (2 ^ 64))
  phase_close : (phase *ℤ pos (2 ^ 64)) ≤ℤ (turn *ℤ pos 3600000000 +ℤ pos 3600000000)
  rate_below : (pos 16436250000000 *ℤ b) ≤ℤ (pos (2 ^ 77) *ℤ a +ℤ pos (16436250000000 * 2 ^ 68))
  rate_above : (pos (2 ^ 77) *ℤ a) ≤ℤ (pos 16436250000000 *ℤ b +ℤ pos (16436250000000 * 2 ^ 68))
  moved_below : (pos (2 ^ 8) *ℤ a) ≤ℤ (y +ℤ v)
  moved_above : y ≤ℤ (pos (2 ^ 8) *ℤ a +ℤ v)
  part_below : (f *ℤ pos (2 ^ 64)) ≤ℤ b
  part_close : b ≤ℤ (f *ℤ pos (2 ^ 64) +ℤ pos (2 ^ 64))
  degrees_below : (pos 32 *ℤ p) ≤ℤ (pos 45 *ℤ (turn +ℤ f))
  degrees_close : (pos 45 *ℤ (turn +ℤ f)) ≤ℤ (pos 32 *ℤ p +ℤ pos 32)
  width : (v +ℤ pos (27 * 365250000000)) ≤ℤ (w *ℤ pos 365250000000)

angle_below : (phase turn a b f p y v w : ℤ) → Angle phase turn a b f p y v w
    → (phase *ℤ pos (2 ^ 56 * 365250000000) +ℤ y *ℤ pos 10000000) ≤ℤ ((p +ℤ w) *ℤ pos (10000000 * 365250000000))
angle_below phase turn a b f p y v w h =
    le_over (phase ∷ turn ∷ a ∷ b ∷ f ∷ p ∷ y ∷ v ∷ w ∷ [])
    ((at 0 ⊗ lit (pos (2 ^ 64)) ≼ at 1 ⊗ lit (pos 3600000000) ⊕ lit (pos 3600000000)) ∷
    (lit (pos (2 ^ 77)) ⊗ at 2 ≼ lit (pos 16436250000000) ⊗ at 3 ⊕ lit (pos (16436250000000 * 2 ^ 68)))
    ∷ (at 6 ≼ lit (pos (2 ^ 8)) ⊗ at 2 ⊕ at 7)
    ∷ (at 3 ≼ at 4 ⊗ lit (pos (2 ^ 64)) ⊕ lit (pos (2 ^ 64)))
    ∷ (lit (pos 45) ⊗ (at 1 ⊕ at 4) ≼ lit (pos 32) ⊗ at 5 ⊕ lit (pos 32)) ∷
    (at 7 ⊕ lit (pos (27 * 365250000000)) ≼ at 8 ⊗ lit (pos 365250000000)) ∷ [])
    (lit (pos (2 ^ 69)))
    (at 0 ⊗ lit (pos (2 ^ 56 * 365250000000)) ⊕ at 6 ⊗ lit (pos 10000000))
    ((at 5 ⊕ at 8) ⊗ lit (pos (10000000 * 365250000000)))
    (naturally (2 ^ 61 * 365250000000) ⊠ known 0 ⊞ naturally 10000000 ⊠ known 1
    ⊞ naturally (2 ^ 69 * 10000000) ⊠ known 2 ⊞ naturally
    (45 * 10000000 * 365250000000) ⊠ known 3
    ⊞ naturally (2 ^ 64 * 10000000 * 365250000000) ⊠ known 4 ⊞ naturally (2 ^ 69 * 10000000) ⊠ known 5
    ⊞ naturally 1482288120042931020103680000000000000000) refl
    (omega (arith, ints))
    (h.phase_close, (h.rate_above, (h.moved_above, (h.part_close, (h.degrees_close, (h.width, tt))))))

angle_above : (phase turn a b f p y v w : ℤ) → Angle phase turn a b f p y v w
    → ((p -ℤ w) *ℤ pos (10000000 * 365250000000)) ≤ℤ (phase *ℤ pos (2 ^ 56 * 365250000000) +ℤ y *ℤ pos 10000000)
angle_above phase turn a b f p y v w h =
    le_over (phase ∷ turn ∷ a ∷ b ∷ f ∷ p ∷ y ∷ v ∷ w ∷ [])
    ((at 1 ⊗ lit (pos 3600000000) ≼ at 0 ⊗ lit (pos (2 ^ 64)))
    ∷ (lit (pos 16436250000000) ⊗ at 3 ≼ lit (pos (2 ^ 77)) ⊗ at 2 ⊕ lit
    (pos (16436250000000 * 2 ^ 68))) ∷ (lit (pos (2 ^ 8)) ⊗ at 2 ≼ at 6 ⊕ at 7)
    ∷ (at 4 ⊗ lit (pos (2 ^ 64)) ≼ at 3) ∷ (lit (pos 32) ⊗ at 5 ≼ lit (pos 45) ⊗ (at 1 ⊕ at 4)) ∷
    (at 7 ⊕ lit (pos (27 * 365250000000)) ≼ at 8 ⊗ lit (pos 365250000000)) ∷ [])
    (lit (pos (2 ^ 69)))
    ((at 5 ⊖ at 8) ⊗ lit (pos (10000000 * 365250000000))) (at 0 ⊗ lit (pos (2 ^ 56 * 365250000000))
    ⊕ at 6 ⊗ lit (pos 10000000))
    (naturally (2 ^ 61 * 365250000000) ⊠ known 0 ⊞ naturally 10000000 ⊠ known 1
    ⊞ naturally (2 ^ 69 * 10000000) ⊠ known 2 ⊞ naturally
    (45 * 10000000 * 365250000000) ⊠ known 3
    ⊞ naturally (2 ^ 64 * 10000000 * 365250000000) ⊠ known 4 ⊞ naturally (2 ^ 69 * 10000000) ⊠ known 5
    ⊞ naturally 9702249513008275767951360000000000000000) refl
    (omega (arith, ints))
    (h.phase_below, (h.rate_below, (h.moved_below, (h.part_below, (h.degrees_below, (h.width, tt))))))

-- ---- products
-- what the rounding of a rate does over the days
rate_products : (rate turn mid : ℤ) → (turn *ℤ pos 16436250000000) ≤ℤ (rate *ℤ pos (2 ^ 77))
    → (rate *ℤ pos (2 ^ 77)) ≤ℤ (turn *ℤ pos 16436250000000 +ℤ pos 16436250000000) → neg_ℤ (pos (2 ^ 68)) ≤ℤ mid
    → mid ≤ℤ pos (2 ^ 68)
    → ((pos 16436250000000 *ℤ (turn *ℤ mid)) ≤ℤ (pos (2 ^ 77) *ℤ (rate *ℤ mid) +ℤ pos (16436250000000 * 2 ^ 68))) ×
    ((pos (2 ^ 77) *ℤ (rate *ℤ mid)) ≤ℤ (pos 16436250000000 *ℤ (turn *ℤ mid) +ℤ pos (16436250000000 * 2 ^ 68)))
rate_products rate turn mid l u s t =
    let cs = ((at 1 ⊗ lit (pos 16436250000000) ≼ at 0 ⊗ lit (pos (2 ^ 77))) ∷
    (at 0 ⊗ lit (pos (2 ^ 77)) ≼ at 1 ⊗ lit (pos 16436250000000) ⊕ lit (pos 16436250000000))
    ∷ (lit (negsuc (2 ^ 68 - 1)) ≼ at 2) ∷
    (at 2 ≼ lit (pos (2 ^ 68))) ∷ []) in
    let m : negsuc (2 ^ 68 - 1) ≤ℤ mid = omega (arith, ints, s) in (
      le_by (rate ∷ turn ∷ mid ∷ []) cs (lit (pos 16436250000000) ⊗ (at 1 ⊗ at 2))
          (lit (pos (2 ^ 77)) ⊗ (at 0 ⊗ at 2) ⊕ lit (pos (16436250000000 * 2 ^ 68)))
          (known 0 ⊠ known 2 ⊞ known 1 ⊠ naturally (2 ^ 68)) refl (l, (u, (m, (t, tt)))),
      le_by (rate ∷ turn ∷ mid ∷ []) cs (lit (pos (2 ^ 77)) ⊗ (at 0 ⊗ at 2))
          (lit (pos 16436250000000) ⊗ (at 1 ⊗ at 2) ⊕ lit (pos (16436250000000 * 2 ^ 68)))
          (known 0 ⊠ known 3 ⊞ known 1 ⊠ naturally (2 ^ 68)) refl (l, (u, (m, (t, tt)))),
    )

-- how far the angle moves over the days
moved_products : (rate size mid w x : ℤ) → rate ≤ℤ size → neg_ℤ size ≤ℤ rate → (mid *ℤ pos (2 ^ 8) -ℤ w) ≤ℤ x
    → x ≤ℤ (mid *ℤ pos (2 ^ 8) +ℤ w)
    → ((pos (2 ^ 8) *ℤ (rate *ℤ mid)) ≤ℤ (x *ℤ rate +ℤ size *ℤ w))
    × ((x *ℤ rate) ≤ℤ (pos (2 ^ 8) *ℤ (rate *ℤ mid) +ℤ size *ℤ w))
moved_products rate size mid w x p q l u =
    let cs = ((at 0 ≼ at 1) ∷ (lit (pos 0) ⊖ at 1 ≼ at 0) ∷ (at 2 ⊗ lit (pos (2 ^ 8)) ⊖ at 3 ≼ at 4)
    ∷ (at 4 ≼ at 2 ⊗ lit (pos (2 ^ 8)) ⊕ at 3) ∷ []) in
    let q' : (pos 0 -ℤ size) ≤ℤ rate = omega (arith, ints, q) in (
      le_over (rate ∷ size ∷ mid ∷ w ∷ x ∷ []) cs (lit (pos 2)) (lit (pos (2 ^ 8)) ⊗ (at 0 ⊗ at 2))
          (at 4 ⊗ at 0 ⊕ at 1 ⊗ at 3)
          (known 1 ⊠ known 2 ⊞ known 0 ⊠ known 3) refl (omega (arith, ints)) (p, (q', (l, (u, tt)))),
      le_over (rate ∷ size ∷ mid ∷ w ∷ x ∷ []) cs (lit (pos 2)) (at 4 ⊗ at 0)
          (lit (pos (2 ^ 8)) ⊗ (at 0 ⊗ at 2) ⊕ at 1 ⊗ at 3)
          (known 0 ⊠ known 2 ⊞ known 1 ⊠ known 3) refl (omega (arith, ints)) (p, (q', (l, (u, tt)))),
    )

-- ---- as fractions
fraction_below : (phase y q : ℤ) → (phase *ℤ pos (2 ^ 56 * 365250000000) +ℤ y *ℤ pos 10000000)
    ≤ℤ (q *ℤ pos (10000000 * 365250000000))
    → plus (ten_millionths phase) (record { num = y; below = 2 ^ 56 * 365250000000 - 1 }) ≤F units_of_56 q
unfolding plus
fraction_below phase y q h = record { cross = omega (arith, ints, h) }

fraction_above : (phase y q : ℤ) → (q *ℤ pos (10000000 * 365250000000))
    ≤ℤ (phase *ℤ pos (2 ^ 56 * 365250000000) +ℤ y *ℤ pos 10000000)
    → units_of_56 q ≤F plus (ten_millionths phase) (record { num = y; below = 2 ^ 56 * 365250000000 - 1 })
unfolding plus
fraction_above phase y q h = record { cross = omega (arith, ints, h) }

abbrev angle_at : (phase rate x : ℤ) → Fraction
angle_at phase rate x = plus (ten_millionths phase) (times (units_of_56 x) (daily_ten_millionths rate))

angle_within : (phase rate x a b : ℤ) → (a *ℤ pos (10000000 * 365250000000))
    ≤ℤ (phase *ℤ pos (2 ^ 56 * 365250000000) +ℤ (x *ℤ rate) *ℤ pos 10000000)
    → (phase *ℤ pos (2 ^ 56 * 365250000000) +ℤ (x *ℤ rate) *ℤ pos 10000000) ≤ℤ (b *ℤ pos (10000000 * 365250000000))
    → (units_of_56 a ≤F angle_at phase rate x) × (angle_at phase rate x ≤F units_of_56 b)
unfolding times
angle_within phase rate x a b l u = (fraction_above phase (x *ℤ rate) a l, fraction_below phase (x *ℤ rate) b u)

sum_endpoints : (c x y : Fraction) (a b : ℤ) → (units_of_56 a ≤F plus c x) × (plus c x ≤F units_of_56 b)
    → (units_of_56 a ≤F plus c y) × (plus c y ≤F units_of_56 b)
    → sum (exactly c) (between (least x x y y) (greatest x x y y)) ⊆ between (units_of_56 a)
    (units_of_56 b)
unfolding sum
sum_endpoints c x y a b l u = record {
  endpoints = (
    least_keeps (λ z. units_of_56 a ≤F plus c z) x x y y l.0 l.0 u.0 u.0,
    greatest_keeps
        (λ z. plus c z ≤F units_of_56 b) x x y y l.1 l.1 u.1 u.1,
  );
}

-- the angles of an interval of days, from those of its endpoints
interval_within : (phase rate lo hi a b : ℤ) (i : Interval) → IsProper i → i ⊆ between (units_of_56 lo) (units_of_56 hi)
    → (units_of_56 a ≤F angle_at phase rate lo) × (angle_at phase rate lo ≤F units_of_56 b)
    → (units_of_56 a ≤F angle_at phase rate hi) × (angle_at phase rate hi ≤F units_of_56 b)
    → sum (exactly (ten_millionths phase)) (product i (exactly (daily_ten_millionths rate))) ⊆ between (units_of_56 a)
    (units_of_56 b)
interval_within phase rate lo hi a b i p h l u =
    let c = ten_millionths phase in
    let f = daily_ten_millionths rate in
    within_trans (sum_within (within_refl (exactly c)) (product_within p (le_refl f) h (within_refl (exactly f))))
    (rw (product_endpoints (units_of_56 lo) (units_of_56 hi) f) (sum_endpoints c (times (units_of_56 lo) f)
    (times (units_of_56 hi) f) a b l u))

-- ---- the octants of a turn, counted on
pub octant_is : (q : ℤ) (j : ℕ) → j ≤ 7 → octant_of_turn (pos 8 *ℤ q +ℤ pos j) ≡ j
octant_is q j l =
    let k = pos 8 *ℤ q +ℤ pos j in
    by_floor k (floor_quotient k 7) (floor_quotient_is k 7) refl
  where
    by_floor : (k f : ℤ) → IsFloorQuotient f k 7 → k ≡ pos 8 *ℤ q +ℤ pos j → unsigned_abs (k -ℤ (pos 8 *ℤ f)) ≡ j
    by_floor k f h e = omega (arith, ints, h.not_above, h.close, e, l)

-- ---- a row
-- the degrees of a turn, with whole turns
pub degrees_are : (turn : ℕ) (q : ℤ) → ((pos 32 *ℤ ((pos 8 *ℤ q +ℤ pos (octant_of turn)) *ℤ pos OCTANT
    +ℤ pos (degrees_of turn))) ≤ℤ
    (pos 45 *ℤ (pos turn +ℤ q *ℤ pos (2 ^ 64))))
    × ((pos 45 *ℤ (pos turn +ℤ q *ℤ pos (2 ^ 64)))
    ≤ℤ (pos 32 *ℤ ((pos 8 *ℤ q +ℤ pos (octant_of turn)) *ℤ pos OCTANT +ℤ pos (degrees_of turn)) +ℤ pos 32))
degrees_are turn q = (omega (arith, ints), omega (arith, ints))

pub degrees_few : (turn : ℕ) → degrees_of turn ≤ OCTANT
degrees_few turn = omega arith

pub octant_few : (turn : ℕ) → turn < 2 ^ 64 → octant_of turn ≤ 7
octant_few turn h = omega (arith, h)

-- how far the degrees move, and the sine by them
width_enough : (v : ℕ) → (pos v +ℤ pos (27 * 365250000000)) ≤ℤ (pos (v / 365250000000 + 28) *ℤ pos 365250000000)
width_enough v = omega (arith, ints)

sine_enough : (v : ℕ) → v / 365250000000 + 28 + 1300 ≤ 57 * (v / 20819250000000 + 25)
sine_enough v = omega arith

pub abs_above : (z : ℤ) → z ≤ℤ pos (unsigned_abs z)
abs_above z = omega (arith, ints)

pub abs_below : (z : ℤ) → neg_ℤ (pos (unsigned_abs z)) ≤ℤ z
abs_below z = omega (arith, ints)

-- a row whose turn in the middle of the days is known
pub record IsRow (v : PeriodicTerm) (t : TurningTerm) (turn : ℕ) (s mid : ℤ) (w : ℕ) (lo hi : ℤ) : Type 0 where
  pub turning : IsTurning v t
  pub turn_fits : turn < 2 ^ 64
  pub turn_is : pos turn ≡ (pos t.phase.0 +ℤ turn_part t.rate.0 mid)
      -ℤ whole_turns (pos t.phase.0 +ℤ turn_part t.rate.0 mid) *ℤ pos (2 ^ 64)
  pub near : AreNear mid w lo hi
  pub point : HasPoint (octant_of turn) (degrees_of turn) (s -ℤ pos 3) (s +ℤ pos 3)
  pub above : neg_ℤ (pos (2 ^ 56)) ≤ℤ s
  pub below : s ≤ℤ pos (2 ^ 56)

module _ (v : PeriodicTerm) (t : TurningTerm) (turn : ℕ) (s mid : ℤ) (w : ℕ) (lo hi : ℤ)
    (h : IsRow v t turn s mid w lo hi) where
  abbrev part : ℤ
  part = turn_part t.rate.0 mid

  abbrev turns : ℤ
  turns = whole_turns (pos t.phase.0 +ℤ part)

  abbrev octant : ℤ
  octant = pos 8 *ℤ turns +ℤ pos (octant_of turn)

  abbrev degrees : ℤ
  degrees = octant *ℤ pos OCTANT +ℤ pos (degrees_of turn)

  abbrev moved : ℕ
  moved = unsigned_abs v.rate * w

  abbrev width : ℤ
  width = pos (moved / 365250000000 + 28)

  sum_is : pos turn +ℤ turns *ℤ pos (2 ^ 64) ≡ pos t.phase.0 +ℤ part
  sum_is = omega (arith, ints, h.turn_is)

  angle_is : (x : ℤ) → lo ≤ℤ x → x ≤ℤ hi → Angle v.phase (pos t.phase.0) (v.rate *ℤ mid) (t.rate.0 *ℤ mid) part degrees
      (x *ℤ v.rate) (pos moved) width
  angle_is x l u =
      let r = rate_products v.rate t.rate.0 mid h.turning.rate_below h.turning.rate_close h.near.least h.near.greatest
      in
      let m = moved_products v.rate (pos (unsigned_abs v.rate)) mid (pos w) x (abs_above v.rate) (abs_below v.rate)
      (omega (arith, ints, h.near.above, l))
      (omega (arith, ints, h.near.below, u)) in
      let f = floor_quotient_is (t.rate.0 *ℤ mid) (2 ^ 64 - 1) in
      let d = rw sum_is at (degrees_are turn turns) in
      record {
        phase_below = h.turning.phase_below;
        phase_close = h.turning.phase_close;
        rate_below = r.0;
        rate_above = r.1;
        moved_below = m.0;
        moved_above = m.1;
        part_below = f.not_above;
        part_close = weak _ _ f.close;
        degrees_below = d.0;
        degrees_close = d.1;
        width = width_enough moved;
      }
    where
      weak : (a b : ℤ) → a <ℤ b → a ≤ℤ b
      weak a b k = omega (arith, ints, k)

  angle_near : (x : ℤ) → lo ≤ℤ x → x ≤ℤ hi → (units_of_56 (degrees -ℤ width) ≤F angle_at v.phase v.rate x) ×
      (angle_at v.phase v.rate x ≤F units_of_56 (degrees +ℤ width))
  angle_near x l u =
      let a = angle_is x l u in
      angle_within v.phase v.rate x (degrees -ℤ width) (degrees +ℤ width)
      (angle_above v.phase (pos t.phase.0) _ _ part degrees _ (pos moved) width a)
      (angle_below v.phase (pos t.phase.0) _ _ part degrees _ (pos moved) width a)

  sine_there : (n : ℕ) (i : Interval) → 40 ≤ n → IsProper i → i ⊆ between (units_of_56 lo) (units_of_56 hi)
      → sine_of_degrees n (sum (exactly (ten_millionths v.phase)) (product i (exactly (daily_ten_millionths v.rate))))
      ⊆ between
      (units_of_56 ((s -ℤ pos 3) -ℤ pos (moved / 20819250000000 + 25)))
      (units_of_56 ((s +ℤ pos 3) +ℤ pos (moved / 20819250000000 + 25)))
  sine_there n i deep p k =
      let c = exactly (ten_millionths v.phase) in
      let f = exactly (daily_ten_millionths v.rate) in
      let point : IsAngleNear octant (degrees_of turn) (s -ℤ pos 3) (s +ℤ pos 3) =
      record {
        degrees = degrees_few turn;
        point = rw (octant_is turns (octant_of turn) (octant_few turn h.turn_fits))
            h.point;
      } in
      sine_far n (sum c (product i f)) octant (degrees_of turn) (moved / 365250000000 + 28)
      (moved / 20819250000000 + 25) s (degrees -ℤ width)
      (degrees +ℤ width) deep
      (plus_proper c (product i f) (le_refl (ten_millionths v.phase))
      (product_proper i f p (le_refl (daily_ten_millionths v.rate))))
      (interval_within v.phase v.rate lo hi _ _ i p k (angle_near lo (omega (arith, ints)) h.near.ordered)
      (angle_near hi h.near.ordered (omega (arith, ints))))
      point h.above h.below (omega (arith, ints)) (omega (arith, ints)) (omega (arith, ints)) (sine_enough moved)

-- ---- times its size
pub corners : (z s c b : ℤ) → z ≤ℤ b → neg_ℤ b ≤ℤ z → pos 0 ≤ℤ c → ((z *ℤ s -ℤ b *ℤ c) ≤ℤ ((s -ℤ c) *ℤ z))
    × (((s -ℤ c) *ℤ z) ≤ℤ (z *ℤ s +ℤ b *ℤ c)) ×
    ((z *ℤ s -ℤ b *ℤ c) ≤ℤ ((s +ℤ c) *ℤ z)) × (((s +ℤ c) *ℤ z) ≤ℤ (z *ℤ s +ℤ b *ℤ c))
corners z s c b u l n =
    let l' : (pos 0 -ℤ b) ≤ℤ z = omega (arith, ints, l) in
    let ρ = (z ∷ s ∷ c ∷ b ∷ []) in
    let cs = ((at 0 ≼ at 3) ∷ (lit (pos 0) ⊖ at 3 ≼ at 0) ∷ (lit (pos 0) ≼ at 2) ∷ []) in
    let below = at 0 ⊗ at 1 ⊖ at 3 ⊗ at 2 in
    let above = at 0 ⊗ at 1 ⊕ at 3 ⊗ at 2 in
    let first = (at 1 ⊖ at 2) ⊗ at 0 in
    let last = (at 1 ⊕ at 2) ⊗ at 0 in (
      le_by ρ cs below first (known 2 ⊠ known 0) refl (u, (l', (n, tt))),
      le_by ρ cs first above (known 2 ⊠ known 1) refl (u, (l', (n, tt))),
      le_by ρ cs below last (known 2 ⊠ known 1) refl (u, (l', (n, tt))),
      le_by ρ cs last above (known 2 ⊠ known 0) refl (u, (l', (n, tt))),
    )

times_above : (q p z : ℤ) → q ≤ℤ (p *ℤ z) → units_of_56 q ≤F times (units_of_56 p) (whole z)
unfolding times
times_above q p z h = order_at q (p *ℤ z) h

times_below : (q p z : ℤ) → (p *ℤ z) ≤ℤ q → times (units_of_56 p) (whole z) ≤F units_of_56 q
unfolding times
times_below q p z h = order_at (p *ℤ z) q h

pub scaled_within : (z a b l u : ℤ) (i : Interval) → IsProper i → i ⊆ between (units_of_56 a) (units_of_56 b)
    → l ≤ℤ (a *ℤ z) → (a *ℤ z) ≤ℤ u → l ≤ℤ (b *ℤ z)
    → (b *ℤ z) ≤ℤ u → product i (exactly (whole z)) ⊆ between (units_of_56 l) (units_of_56 u)
scaled_within z a b l u i p h al au bl bu =
    within_trans (product_within p (le_refl (whole z)) h (within_refl (exactly (whole z))))
    (rw (product_endpoints (units_of_56 a) (units_of_56 b) (whole z))
    (record {
      endpoints = (
        least_keeps (λ x. units_of_56 l ≤F x) _ _ _ _ (times_above l a z al) (times_above l a z al)
            (times_above l b z bl) (times_above l b z bl),
        greatest_keeps (λ x. x ≤F units_of_56 u) _ _ _ _ (times_below u a z au) (times_below u a z au)
            (times_below u b z bu) (times_below u b z bu),
      );
    }))

regrouped_below : (s m : ℤ) → (s -ℤ pos 3) -ℤ m ≡ s -ℤ (m +ℤ pos 3)
regrouped_below s m = omega (arith, ints)

regrouped_above : (s m : ℤ) → (s +ℤ pos 3) +ℤ m ≡ s +ℤ (m +ℤ pos 3)
regrouped_above s m = omega (arith, ints)

pub row_holds : (world : World) (x : Expression) (v : PeriodicTerm) (t : TurningTerm) (turn : ℕ) (s mid y : ℤ) (w : ℕ)
    (lo hi : ℤ) → 40 ≤ world.depth
    → IsRow v t turn s mid w lo hi → value world x ⊆ between (units_of_56 lo) (units_of_56 hi) → y ≡ t.size *ℤ s
    → value world (turning_term_of x v) ⊆ between (units_of_56 (y -ℤ pos (radius_of v w)))
    (units_of_56 (y +ℤ pos (radius_of v w)))
unfolding value turning_term_of
row_holds world x v t turn s mid y w lo hi deep h k e =
    let i = value world x in
    let angle = sum (exactly (ten_millionths v.phase)) (product i (exactly (daily_ten_millionths v.rate))) in
    let m = unsigned_abs v.rate * w / 20819250000000 + 25 in
    let p = value_proper world x in
    let proper = degree_sines.proper world.depth angle (plus_proper _ _ (le_refl (ten_millionths v.phase))
    (product_proper i _ p (le_refl (daily_ten_millionths v.rate)))) in
    let inside = rw (regrouped_below s (pos m), regrouped_above s (pos m)) at
    (sine_there v t turn s mid w lo hi h world.depth i deep p k) in
    let c = corners v.size s (pos m +ℤ pos 3) (pos (unsigned_abs v.size)) (abs_above v.size) (abs_below v.size)
    (omega (arith, ints)) in
    let f : y ≡ v.size *ℤ s = rw (← h.turning.size) e in
    let g : pos (unsigned_abs v.rate * w / 20819250000000 + 28) ≡ pos m +ℤ pos 3 = omega (arith, ints) in
    let r : pos (radius_of v w) ≡ pos (unsigned_abs v.size) *ℤ (pos m +ℤ pos 3) =
    radius_is (unsigned_abs v.size) (unsigned_abs v.rate * w / 20819250000000) in
    rw (f, r) (scaled_within v.size _ _ _ _ (sine_of_degrees world.depth angle) proper inside c.0 c.1 c.2 c.3)
  where
    radius_is : (z q : ℕ) → pos (z * (q + 28)) ≡ pos z *ℤ (pos (q + 25) +ℤ pos 3)
    radius_is z q = let e : q + 28 ≡ (q + 25) + 3 = omega arith in ap (λ x. pos (z * x)) e

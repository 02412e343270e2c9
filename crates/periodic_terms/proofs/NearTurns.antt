-- What is near a turn: multiples and sums of it, and its sine. Whole turns are counted apart, so that each lemma is
-- about numbers that don't wrap.
use Rattle.std.proofs.Common.{◌≡◌, ℕ, ◌+◌, ◌*◌, ◌/◌, ◌^◌, ◌≤◌, ◌<◌, refl, arith, unsigned_abs, neg_ℤ, ℤ, pos, ◌+ℤ◌}
use Rattle.std.proofs.Common.{◌-ℤ◌, ◌*ℤ◌, ◌≤ℤ◌, ◌<ℤ◌, [], ◌∷◌}
use Rattle.std.proofs.lemmas.Int.{ints}
use Rattle.book_model.specs.Fraction.{◌≤F◌, whole, plus, times}
use Rattle.book_model.specs.Interval.{Interval, between, IsProper, ◌⊆◌, sum, product}
use Rattle.book_model.proofs.Fractions.{le_refl}
use Rattle.book_model.proofs.Intervals.{within_trans, within_refl, sum_within, product_within, least_keeps}
use Rattle.book_model.proofs.Intervals.{greatest_keeps}
use Rattle.book_model.proofs.Ring.{at, lit, ◌⊕◌, ◌⊗◌, ring}
use Rattle.book_model.specs.numbers.Expressions.{exactly}
use Rattle.book_model.specs.numbers.Octants.{only, sine_of_degrees}
use Rattle.book_model.specs.programs.Leading.{units_of_56}
use Rattle.encl_core.specs.parts.TheConstants.{OCTANT}
use Rattle.trig_series.proofs.KernelAngles.{product_endpoints}
use Rattle.periodic_terms.specs.Turning.{HasPoint, octant_of, degrees_of}
use Rattle.periodic_terms.proofs.Around.{IsAngleNear, sine_near}
use Rattle.periodic_terms.proofs.RowsByTime.{corners, octant_is, degrees_are, degrees_few, octant_few, abs_above}
use Rattle.periodic_terms.proofs.RowsByTime.{abs_below}
use Rattle.periodic_terms.specs.Angles.{in_61, IsAround, IsKnown, IsNearTurn, IsTurnAt, IsWideTurnAt}

-- ---- order
order_61 : (p q : ℤ) → p ≤ℤ q → in_61 p ≤F in_61 q
order_61 p q h = record { cross = omega (arith, ints) }

-- ---- wider
wider_around : (t : ℤ) (v w : ℕ) (i : Interval) → v ≤ w → IsAround t v i → IsAround t w i
wider_around t v w i h k = within_trans k (record {
  endpoints = (
    order_61 _ _ (omega (arith, ints, h)),
    order_61 _ _ (omega (arith, ints, h)),
  );
})

pub wider_near : (t : ℤ) (v w : ℕ) (i : Interval) → v ≤ w → IsNearTurn t v i → IsNearTurn t w i
wider_near t v w i h k = record {
  turns = k.turns;
  around = wider_around (t +ℤ k.turns *ℤ pos (2 ^ 64)) v w i h
      k.around;
}

-- ---- a sum
sum_endpoints : (p q r a b : ℤ) → r ≡ p +ℤ q
    → sum (between (in_61 (p -ℤ a)) (in_61 (p +ℤ a))) (between (in_61 (q -ℤ b)) (in_61 (q +ℤ b)))
    ⊆ between (in_61 (r -ℤ (a +ℤ b))) (in_61 (r +ℤ (a +ℤ b)))
unfolding sum plus
sum_endpoints p q r a b e = record {
  endpoints = (
    record { cross = omega (arith, ints, e) },
    record { cross = omega (arith, ints, e) },
  );
}

sum_around : (t s : ℤ) (v w : ℕ) (i j : Interval) → IsAround t v i → IsAround s w j
    → IsAround (t +ℤ s) (v + w) (sum i j)
sum_around t s v w i j h k = within_trans (sum_within h k) (sum_endpoints (pos 45 *ℤ t) (pos 45 *ℤ s) _ (pos v) (pos w)
    (omega (arith, ints)))

turned_sum : (t s p q : ℤ) → (t +ℤ p *ℤ pos (2 ^ 64)) +ℤ (s +ℤ q *ℤ pos (2 ^ 64)) ≡ (t +ℤ s) +ℤ (p +ℤ q) *ℤ pos (2 ^ 64)
turned_sum t s p q = omega (arith, ints)

pub sum_near : (t s : ℤ) (v w : ℕ) (i j : Interval) → IsNearTurn t v i → IsNearTurn s w j
    → IsNearTurn (t +ℤ s) (v + w) (sum i j)
sum_near t s v w i j h k =
    record {
      turns = h.turns +ℤ k.turns;
      around = rw (turned_sum t s h.turns k.turns) at (sum_around (t +ℤ h.turns *ℤ pos (2 ^ 64)) (s +ℤ k.turns *ℤ pos
          (2 ^ 64)) v w i j h.around k.around);
    }

-- ---- a quarter of a turn later
quarter_around : IsAround (pos (2 ^ 62) +ℤ pos 0 *ℤ pos (2 ^ 64)) 0 (only (whole (pos 90)))
quarter_around = record { endpoints = (record { cross = omega (arith, ints) }, record { cross = omega (arith, ints) }) }

no_wider : (w : ℕ) → w + 0 ≤ w
no_wider w = omega arith

pub quarter_near : (t : ℤ) (w : ℕ) (i : Interval) → IsNearTurn t w i
    → IsNearTurn (t +ℤ pos (2 ^ 62)) w (sum i (only (whole (pos 90))))
quarter_near t w i h =
    wider_near _ (w + 0) w _ (no_wider w) (sum_near t (pos (2 ^ 62)) w 0 i (only (whole (pos 90))) h
    (record { turns = pos 0; around = quarter_around }))

-- ---- a multiple
times_above : (q p z : ℤ) → q ≤ℤ (p *ℤ z) → in_61 q ≤F times (in_61 p) (whole z)
unfolding times
times_above q p z h = order_61 q (p *ℤ z) h

times_below : (q p z : ℤ) → (p *ℤ z) ≤ℤ q → times (in_61 p) (whole z) ≤F in_61 q
unfolding times
times_below q p z h = order_61 (p *ℤ z) q h

scaled_within : (z a b l u : ℤ) (i : Interval) → IsProper i → i ⊆ between (in_61 a) (in_61 b) → l ≤ℤ (a *ℤ z)
    → (a *ℤ z) ≤ℤ u → l ≤ℤ (b *ℤ z)
    → (b *ℤ z) ≤ℤ u → product i (exactly (whole z)) ⊆ between (in_61 l) (in_61 u)
scaled_within z a b l u i p h al au bl bu =
    within_trans (product_within p (le_refl (whole z)) h (within_refl (exactly (whole z))))
    (rw (product_endpoints (in_61 a) (in_61 b) (whole z))
    (record {
      endpoints = (
        least_keeps (λ x. in_61 l ≤F x) _ _ _ _ (times_above l a z al) (times_above l a z al) (times_above l b z bl)
            (times_above l b z bl),
        greatest_keeps (λ x. x ≤F in_61 u) _ _ _ _ (times_below u a z au) (times_below u a z au) (times_below u b z bu)
            (times_below u b z bu),
      );
    }))

turned_multiple : (m t p : ℤ) → m *ℤ (pos 45 *ℤ (t +ℤ p *ℤ pos (2 ^ 64)))
    ≡ pos 45 *ℤ (m *ℤ t +ℤ (m *ℤ p) *ℤ pos (2 ^ 64))
turned_multiple m t p = ring (m ∷ t ∷ p ∷ []) (at 0 ⊗ (lit (pos 45) ⊗ (at 1 ⊕ at 2 ⊗ lit (pos (2 ^ 64)))))
    (lit (pos 45) ⊗ (at 0 ⊗ at 1 ⊕
    (at 0 ⊗ at 2) ⊗ lit (pos (2 ^ 64)))) refl

pub multiple_near : (m t : ℤ) (w : ℕ) (i : Interval) → IsProper i → IsNearTurn t w i
    → IsNearTurn (m *ℤ t) (unsigned_abs m * w) (product i (exactly (whole m)))
multiple_near m t w i p h =
    let c = corners m (pos 45 *ℤ (t +ℤ h.turns *ℤ pos (2 ^ 64))) (pos w) (pos (unsigned_abs m)) (abs_above m)
    (abs_below m) (omega (arith, ints)) in
    record {
      turns = m *ℤ h.turns;
      around = rw (turned_multiple m t h.turns) at
          (scaled_within m _ _ _ _ i p h.around c.0 c.1 c.2 c.3);
    }

-- none of what something is known of
known_around : (lo hi : ℤ) (w : ℕ) (i : Interval) → neg_ℤ (pos w) ≤ℤ (lo *ℤ pos 32) → (hi *ℤ pos 32) ≤ℤ pos w
    → i ⊆ between (units_of_56 lo) (units_of_56 hi) → IsNearTurn (pos 0) w i
known_around lo hi w i l u h =
    record {
      turns = pos 0;
      around = within_trans h (record {
        endpoints =
            (record { cross = omega (arith, ints, l) }, record { cross = omega (arith, ints, u) });
      });
    }

same_near : (t s : ℤ) (v w : ℕ) (i : Interval) → t ≡ s → v ≡ w → IsNearTurn t v i → IsNearTurn s w i
same_near t s v w i e f h = rw (e, f) at h

pub none_near : (t : ℤ) (h : ℕ) (i : Interval) → IsProper i → IsKnown i
    → IsNearTurn (pos 0 *ℤ t) (0 * h) (product i (exactly (whole (pos 0))))
none_near t h i p k =
    let w = unsigned_abs k.lo * 32 + unsigned_abs k.hi * 32 in
    same_near _ _ _ _ _ (omega (arith, ints)) (omega arith)
    (multiple_near (pos 0) (pos 0) w i p (known_around k.lo k.hi w i (omega (arith, ints)) (omega (arith, ints))
    k.inside))

-- ---- the sine
-- how far the sine is from that at the turn, but for the rounding of that
abbrev pub sine_width : ℕ → ℕ
sine_width w = w / 1824 + 8

width_small : (w : ℕ) → w ≤ 2 ^ 65 → pos (w / 32 + 3) <ℤ pos OCTANT
width_small w h = omega (arith, ints, h)

sine_enough : (w : ℕ) → (pos (w / 32 + 3) +ℤ pos 340) ≤ℤ (pos 57 *ℤ pos (w / 1824 + 8))
sine_enough w = omega (arith, ints)

around_degrees : (t d : ℤ) (w : ℕ) (i : Interval) → (pos 32 *ℤ d) ≤ℤ (pos 45 *ℤ t)
    → (pos 45 *ℤ t) ≤ℤ (pos 32 *ℤ d +ℤ pos 32) → IsAround t w i
    → i ⊆ between (units_of_56 (d -ℤ pos (w / 32 + 3))) (units_of_56 (d +ℤ pos (w / 32 + 3)))
around_degrees t d w i l u h = within_trans h (record {
  endpoints =
      (record { cross = omega (arith, ints, l, u) }, record { cross = omega (arith, ints, l, u) });
})

reduced : (turn : ℕ) (t z p : ℤ) → pos turn ≡ t -ℤ z *ℤ pos (2 ^ 64) → t +ℤ p *ℤ pos (2 ^ 64) ≡ pos turn
    +ℤ (p +ℤ z) *ℤ pos (2 ^ 64)
reduced turn t z p e = omega (arith, ints, e)

pub sine_of_near : (n : ℕ) (turn : ℕ) (t z s : ℤ) (w : ℕ) (i : Interval) → 40 ≤ n → IsProper i → turn < 2 ^ 64
    → pos turn ≡ t -ℤ z *ℤ pos (2 ^ 64) → w ≤ 2 ^ 65
    → HasPoint (octant_of turn) (degrees_of turn) (s -ℤ pos 3) (s +ℤ pos 3) → IsNearTurn t w i
    → sine_of_degrees n i ⊆ between (units_of_56 ((s -ℤ pos 3) -ℤ pos (sine_width w)))
    (units_of_56 ((s +ℤ pos 3) +ℤ pos (sine_width w)))
sine_of_near n turn t z s w i deep p few e small point h =
    let turns = h.turns +ℤ z in
    let octant = pos 8 *ℤ turns +ℤ pos (octant_of turn) in
    let degrees = octant *ℤ pos OCTANT +ℤ pos (degrees_of turn) in
    let width = pos (w / 32 + 3) in
    let d = degrees_are turn turns in
    let near : IsAngleNear octant (degrees_of turn) (s -ℤ pos 3) (s +ℤ pos 3) = record {
      degrees = degrees_few turn;
      point = rw (octant_is turns
          (octant_of turn) (octant_few turn few)) point;
    } in
    let around = rw (reduced turn t z h.turns e) at h.around in
    sine_near n i octant (degrees_of turn) (s -ℤ pos 3) (s +ℤ pos 3) width (pos (sine_width w)) (degrees -ℤ width)
    (degrees +ℤ width) deep p
    (around_degrees (pos turn +ℤ turns *ℤ pos (2 ^ 64)) degrees w i d.0 d.1 around)
    near (omega (arith, ints)) (omega (arith, ints)) (omega (arith, ints)) (width_small w small) (sine_enough w)

-- ---- a span as a turn
pub turn_inside : (turn w : ℕ) (middle lo hi : ℤ) (i : Interval) → (t : IsTurnAt turn middle)
    → (middle *ℤ pos 2) ≤ℤ (lo +ℤ hi)
    → pos w ≡ (hi -ℤ middle) *ℤ pos 32 +ℤ pos 90
    → i ⊆ between (units_of_56 lo) (units_of_56 hi) → IsNearTurn (pos turn) w i
turn_inside turn w middle lo hi i t a e h =
    record {
      turns = t.turns;
      around = within_trans h (record {
        endpoints = (
          record { cross = omega (arith, ints, a, e, t.below) },
          record { cross = omega (arith, ints, e, t.close) },
        );
      });
    }

-- a turn and what a rest adds to it
pub turn_together : (wide rest turn : ℕ) (middle coarse z : ℤ) → IsWideTurnAt wide coarse
    → middle ≡ coarse *ℤ pos (2 ^ 19) +ℤ z
    → (pos 45 *ℤ pos rest) ≤ℤ (z *ℤ pos 32) → (z *ℤ pos 32) <ℤ (pos 45 *ℤ pos rest +ℤ pos 45)
    → (n : ℤ) → pos turn ≡ (pos wide +ℤ pos rest) -ℤ n *ℤ pos (2 ^ 64) → IsTurnAt turn middle
turn_together wide rest turn middle coarse z t e l u n f = record {
  turns = t.turns +ℤ n;
  below = omega (arith, ints, t.below, e, l, f);
  close = omega (arith, ints, t.close, e, u, f);
}

pub added : (turn : ℕ) (a b : ℤ) (p q : ℕ) (n : ℤ) → a ≡ pos p → b ≡ pos q → pos turn ≡ (a +ℤ b) -ℤ n *ℤ pos (2 ^ 64)
    → pos turn ≡ (pos p +ℤ pos q) -ℤ n *ℤ pos (2 ^ 64)
added turn a b p q n e f h = omega (arith, ints, e, f, h)

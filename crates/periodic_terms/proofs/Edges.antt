-- Where two octants meet, the sines at the end of one are those at the beginning of the other. Both are values of the
-- kernel of `trig_series` at 0 or at 45 degrees, of which the model's sine of one and cosine of the other lie in both
-- spans: so each span holds the other's numbers but for its width, and an octant may be followed or preceded by its
-- neighbour at the cost of four parts of 2^-56. After the eighth octant comes the first, and four octants later the
-- signs are turned.
use Rattle.std.proofs.Common.{◌≡◌, ℕ, zero, suc, ◌-◌, ◌%◌, ◌≤◌, refl, arith, neg_ℤ, ℤ, pos, negsuc, ◌+ℤ◌, ◌-ℤ◌, ◌*ℤ◌, ◌≤ℤ◌}
use Rattle.std.proofs.Common.{◌<ℤ◌, ◌⊎◌, inl, inr}
use Rattle.std.proofs.lemmas.Int.{ints}
use Rattle.book_model.specs.Fraction.{Fraction, ◌≤F◌}
use Rattle.book_model.proofs.Alternating.{sum_endpoints_in_order}
use Rattle.book_model.proofs.Floors.{floor_quotient_is}
use Rattle.book_model.proofs.Fractions.{le_trans}
use Rattle.book_model.specs.programs.Leading.{units_of_56}
use Rattle.book_model.specs.numbers.Octants.{octant_of_turn}
use Rattle.book_model.specs.numbers.Series.{sine_term, cosine_term}
use Rattle.book_model.proofs.SeriesNesting.{sine_uppers, cosine_uppers}
use Rattle.book_model.proofs.Terms.{sine_halving, cosine_halving}
use Rattle.encl_core.specs.parts.TheConstants.{OCTANT}
use Rattle.trig_series.specs.Kernel.{in_radians, in_radians_above, IsInRadians, IsAngle, AreSineEndpoints}
use Rattle.trig_series.specs.Kernel.{AreCosineEndpoints}
use Rattle.trig_series.specs.declared.waves.Wave.{Wave}
use Rattle.trig_series.specs.declared.waves.Wave.TheVariants.{Cosine, Sine}
use Rattle.trig_series.proofs.Curves.{in_fifths}
use Rattle.trig_series.proofs.KernelAngles.{angle_between, by_lower, by_upper}
use Rattle.trig_series.proofs.PartLemmas.{above_fifths}
use Rattle.trig_series.proofs.KernelAngles.{neighbours}
use Rattle.trig_series.proofs.PointLemmas.{low_end, high_end}
use Rattle.trig_series.proofs.SineChain.{sine_near, Chain, innermost}
use Rattle.trig_series.proofs.PointLemmas.{sine_eighth, cosine_eighth, keeps, high}
use Rattle.trig_series.proofs.TurnLemmas.{next_turn}
use Rattle.periodic_terms.specs.Turning.{HasSine, HasCosine, HasPoint}
use Rattle.periodic_terms.proofs.Spreads.{sine_wider, cosine_wider, wider}

-- ---- from the kernel's numbers
pub sine_is : (d s : ℕ) (lo hi : ℤ) → ((n : ℕ) (x : Fraction) → 8 ≤ n → IsInRadians d x → AreSineEndpoints x s n)
    → (lo *ℤ pos 256 +ℤ pos 384) ≤ℤ pos s
    → pos s ≤ℤ (hi *ℤ pos 256 -ℤ pos 384) → HasSine d lo hi
sine_is d s lo hi f l u = record {
  low = λ n m. le_trans _ _ _ (low_end (pos s) (pos 384) lo l) (f n _ (omega (arith, m)) (by_lower d)).low;
  high = λ n m. le_trans _ _ _ (f n _ (omega (arith, m)) (by_upper d)).high (high_end (pos s) (pos 384) hi u);
}

pub cosine_is : (d s : ℕ) (lo hi : ℤ) → ((n : ℕ) (x : Fraction) → 9 ≤ n → IsInRadians d x → AreCosineEndpoints x s n)
    → (lo *ℤ pos 256 +ℤ pos 320) ≤ℤ pos s
    → pos s ≤ℤ (hi *ℤ pos 256 -ℤ pos 320) → HasCosine d lo hi
cosine_is d s lo hi f l u = record {
  low = λ n m. le_trans _ _ _ (low_end (pos s) (pos 320) lo l) (f n _ (omega (arith, m)) (by_upper d)).low;
  high = λ n m. le_trans _ _ _ (f n _ (omega (arith, m)) (by_lower d)).high (high_end (pos s) (pos 320) hi u);
}

-- ---- at 0 and at 45 degrees
eighth_angle : (x : Fraction) → IsInRadians OCTANT x → IsAngle 14488038916154245630 x
eighth_angle x t = angle_between OCTANT _ 7244019458077122815 _ x (omega arith) refl refl refl t

pub sine_at_45 : HasSine OCTANT (pos 50952413380206178) (pos 50952413380206182)
sine_at_45 = sine_is OCTANT 13043817825332782175 _ _ (λ n x l t. sine_eighth n x l (eighth_angle x t))
    (omega (arith, ints)) (omega (arith, ints))

pub cosine_at_45 : HasCosine OCTANT (pos 50952413380206178) (pos 50952413380206182)
cosine_at_45 = cosine_is OCTANT 13043817825332782250 _ _ (λ n x l t. cosine_eighth n x l (eighth_angle x t))
    (omega (arith, ints)) (omega (arith, ints))

none_angle : (x : Fraction) → IsInRadians 0 x → IsAngle 0 x
none_angle x t = angle_between 0 0 0 0 x (omega arith) refl refl refl t

none_chain : Chain 0 51862 14106527 2962370717 462129831893 50834281508238 3660068268593165 153722867280912930
    3074457345618258602 18446744073709551615
none_chain = record {
  k8 = innermost 0;
  k7 = keeps 14106527 0 51862 0 (high 0 0 51862 (omega arith) (omega arith)) (omega arith) (omega arith);
  k6 = keeps 2962370717 0 14106527 0 (high 0 0 14106527 (omega arith) (omega arith)) (omega arith) (omega arith);
  k5 = keeps 462129831893 0 2962370717 0 (high 0 0 2962370717 (omega arith) (omega arith)) (omega arith) (omega arith);
  k4 = keeps 50834281508238 0 462129831893 0 (high 0 0 462129831893 (omega arith) (omega arith)) (omega arith)
      (omega arith);
  k3 = keeps 3660068268593165 0 50834281508238 0 (high 0 0 50834281508238 (omega arith) (omega arith)) (omega arith)
      (omega arith);
  k2 = keeps 153722867280912930 0 3660068268593165 0 (high 0 0 3660068268593165 (omega arith) (omega arith))
      (omega arith) (omega arith);
  k1 = keeps 3074457345618258602 0 153722867280912930 0 (high 0 0 153722867280912930 (omega arith) (omega arith))
      (omega arith) (omega arith);
  k0 = keeps 18446744073709551615 0 3074457345618258602 0 (high 0 0 3074457345618258602 (omega arith) (omega arith))
      (omega arith) (omega arith);
}

none_endpoints : (n : ℕ) (x : Fraction) → 8 ≤ n → IsInRadians 0 x → AreSineEndpoints x 0 n
none_endpoints n x l t =
    sine_near n 0 0 51862 14106527 2962370717 462129831893 50834281508238 3660068268593165 153722867280912930
    3074457345618258602 18446744073709551615 0 x l
    (omega arith) (omega arith) (high 0 0 0 (omega arith) (omega arith))
    (high 0 0 18446744073709551615 (omega arith) (omega arith))
    (none_angle x t) none_chain

pub sine_at_0 : HasSine 0 (negsuc 1) (pos 2)
sine_at_0 = sine_is 0 0 _ _ none_endpoints (omega (arith, ints)) (omega (arith, ints))

-- ---- the endpoints of one span hold those of another at the same angle, but for its width
at_order : (a b : ℤ) → units_of_56 a ≤F units_of_56 b → a ≤ℤ b
at_order a b h = omega (arith, ints, h.cross)

sines_meet : (d : ℕ) (lo hi lo' hi' : ℤ) → d ≤ OCTANT → HasSine d lo hi → HasSine d lo' hi' → lo ≤ℤ hi'
sines_meet d lo hi lo' hi' u h k =
    at_order lo hi'
    (le_trans _ _ _ (h.low 40 (omega arith))
    (le_trans _ _ _ (sum_endpoints_in_order 40 (sine_term (in_radians d))
    ((sine_halving (in_radians d) (in_fifths d u)).nonneg 41))
    (le_trans _ _ _ (sine_uppers 40 _ _ (in_fifths d u) (above_fifths d u) (neighbours d)) (k.high 40 (omega arith)))))

cosines_meet : (d : ℕ) (lo hi lo' hi' : ℤ) → d ≤ OCTANT → HasCosine d lo hi → HasCosine d lo' hi' → lo ≤ℤ hi'
cosines_meet d lo hi lo' hi' u h k =
    at_order lo hi'
    (le_trans _ _ _ (h.low 40 (omega arith))
    (le_trans _ _ _ (sum_endpoints_in_order 40 (cosine_term (in_radians_above d))
    ((cosine_halving (in_radians_above d) (above_fifths d u)).nonneg 40))
    (le_trans _ _ _ (cosine_uppers 39 _ _ (in_fifths d u) (above_fifths d u) (neighbours d))
    (k.high 40 (omega arith)))))

-- ---- from the end of an octant to the beginning of the next
turn_45 : (lo hi : ℤ) → HasSine OCTANT lo hi → HasCosine OCTANT (lo -ℤ pos 4) (hi +ℤ pos 4)
turn_45 lo hi h =
    let a = sines_meet OCTANT lo hi _ _ (omega arith) h sine_at_45 in
    let b = sines_meet OCTANT _ _ lo hi (omega arith) sine_at_45 h in
    cosine_wider _ _ _ _ _ (omega (arith, ints, a)) (omega (arith, ints, b)) cosine_at_45

turn_135 : (lo hi : ℤ) → HasCosine OCTANT lo hi → HasSine OCTANT (lo -ℤ pos 4) (hi +ℤ pos 4)
turn_135 lo hi h =
    let a = cosines_meet OCTANT lo hi _ _ (omega arith) h cosine_at_45 in
    let b = cosines_meet OCTANT _ _ lo hi (omega arith) cosine_at_45 h in
    sine_wider _ _ _ _ _ (omega (arith, ints, a)) (omega (arith, ints, b)) sine_at_45

turn_180 : (lo hi : ℤ) → HasSine 0 lo hi → HasSine 0 (neg_ℤ (hi +ℤ pos 4)) (neg_ℤ (lo -ℤ pos 4))
turn_180 lo hi h =
    let a = sines_meet 0 lo hi _ _ (omega arith) h sine_at_0 in
    let b = sines_meet 0 _ _ lo hi (omega arith) sine_at_0 h in
    sine_wider _ _ _ _ _ (omega (arith, ints, b)) (omega (arith, ints, a)) sine_at_0

turn_back_180 : (lo hi : ℤ) → HasSine 0 (neg_ℤ hi) (neg_ℤ lo) → HasSine 0 (lo -ℤ pos 4) (hi +ℤ pos 4)
turn_back_180 lo hi h =
    let a = sines_meet 0 _ _ _ _ (omega arith) h sine_at_0 in
    let b = sines_meet 0 _ _ _ _ (omega arith) sine_at_0 h in
    sine_wider _ _ _ _ _ (omega (arith, ints, b)) (omega (arith, ints, a)) sine_at_0

pub later : (j : ℕ) (lo hi : ℤ) → HasPoint j OCTANT lo hi → HasPoint (suc j) 0 (lo -ℤ pos 4) (hi +ℤ pos 4)
unfolding HasPoint
later zero lo hi h = turn_45 lo hi h
later (suc zero) lo hi h = cosine_wider 0 _ _ _ _ (omega (arith, ints)) (omega (arith, ints)) h
later (suc (suc zero)) lo hi h = turn_135 lo hi h
later (suc (suc (suc zero))) lo hi h = turn_180 lo hi h
later (suc (suc (suc (suc j)))) lo hi h = wider (suc j) 0 _ _ _ _ (omega (arith, ints)) (omega (arith, ints))
    (later j _ _ h)

pub earlier : (j : ℕ) (lo hi : ℤ) → HasPoint (suc j) 0 lo hi → HasPoint j OCTANT (lo -ℤ pos 4) (hi +ℤ pos 4)
unfolding HasPoint
earlier zero lo hi h = turn_135 lo hi h
earlier (suc zero) lo hi h = cosine_wider 0 _ _ _ _ (omega (arith, ints)) (omega (arith, ints)) h
earlier (suc (suc zero)) lo hi h = turn_45 lo hi h
earlier (suc (suc (suc zero))) lo hi h = turn_back_180 lo hi h
earlier (suc (suc (suc (suc j)))) lo hi h = wider j OCTANT _ _ _ _ (omega (arith, ints)) (omega (arith, ints))
    (earlier j _ _ h)

-- ---- after the last octant of a turn comes the first
twice_opposite : (a : ℤ) → neg_ℤ (neg_ℤ a) ≡ a
twice_opposite a = omega (arith, ints)

whole_turn : (d : ℕ) (lo hi : ℤ) → HasPoint 8 d lo hi → HasPoint 0 d lo hi
unfolding HasPoint
whole_turn d lo hi h = rw (twice_opposite lo, twice_opposite hi) at h

whole_turn_back : (d : ℕ) (lo hi : ℤ) → HasPoint 0 d lo hi → HasPoint 8 d lo hi
unfolding HasPoint
whole_turn_back d lo hi h = rw (twice_opposite lo, twice_opposite hi) h

next_point : (i j d : ℕ) (lo hi : ℤ) → (suc i ≡ j) ⊎ ((i ≡ 7) × (j ≡ 0)) → HasPoint (suc i) d lo hi → HasPoint j d lo hi
next_point i j d lo hi (inl e) h = rw e at h
next_point i j d lo hi (inr e) h = rw e.1 (whole_turn d lo hi (rw e.0 at h))

last_point : (i j d : ℕ) (lo hi : ℤ) → (suc i ≡ j) ⊎ ((i ≡ 7) × (j ≡ 0)) → HasPoint j d lo hi → HasPoint (suc i) d lo hi
last_point i j d lo hi (inl e) h = rw e h
last_point i j d lo hi (inr e) h = rw e.0 (whole_turn_back d lo hi (rw e.1 at h))

pub following : (k : ℤ) (lo hi : ℤ) → HasPoint (octant_of_turn k) OCTANT lo hi
    → HasPoint (octant_of_turn (k +ℤ pos 1)) 0 (lo -ℤ pos 4) (hi +ℤ pos 4)
following k lo hi h = next_point _ _ 0 _ _ (next_turn k _ _ refl refl (floor_quotient_is k 7)
    (floor_quotient_is (k +ℤ pos 1) 7))
    (later (octant_of_turn k) lo hi h)

pub preceding : (k : ℤ) (lo hi : ℤ) → HasPoint (octant_of_turn (k +ℤ pos 1)) 0 lo hi
    → HasPoint (octant_of_turn k) OCTANT (lo -ℤ pos 4) (hi +ℤ pos 4)
preceding k lo hi h = earlier (octant_of_turn k) lo hi (last_point _ _ 0 lo hi
    (next_turn k _ _ refl refl (floor_quotient_is k 7) (floor_quotient_is (k +ℤ pos 1) 7)) h)

-- ---- in the first half turn, and four octants later
module _ (o d s : ℕ) (r : ℤ) (l : (r *ℤ pos 256) ≤ℤ pos s) (u : pos s <ℤ (r *ℤ pos 256 +ℤ pos 256)) where
  half_0 : o ≡ 0 → ((n : ℕ) (x : Fraction) → 8 ≤ n → IsInRadians d x → AreSineEndpoints x s n)
      → HasPoint o d (r -ℤ pos 3) (r +ℤ pos 3)
  unfolding HasPoint
  half_0 e f = rw e (sine_is d s _ _ f (omega (arith, ints, l)) (omega (arith, ints, u)))

  half_1 : o ≡ 1 → ((n : ℕ) (x : Fraction) → 9 ≤ n → IsInRadians (OCTANT - d) x → AreCosineEndpoints x s n)
      → HasPoint o d (r -ℤ pos 3) (r +ℤ pos 3)
  unfolding HasPoint
  half_1 e f = rw e (cosine_is (OCTANT - d) s _ _ f (omega (arith, ints, l)) (omega (arith, ints, u)))

  half_2 : o ≡ 2 → ((n : ℕ) (x : Fraction) → 9 ≤ n → IsInRadians d x → AreCosineEndpoints x s n)
      → HasPoint o d (r -ℤ pos 3) (r +ℤ pos 3)
  unfolding HasPoint
  half_2 e f = rw e (cosine_is d s _ _ f (omega (arith, ints, l)) (omega (arith, ints, u)))

  half_3 : o ≡ 3 → ((n : ℕ) (x : Fraction) → 8 ≤ n → IsInRadians (OCTANT - d) x → AreSineEndpoints x s n)
      → HasPoint o d (r -ℤ pos 3) (r +ℤ pos 3)
  unfolding HasPoint
  half_3 e f = rw e (sine_is (OCTANT - d) s _ _ f (omega (arith, ints, l)) (omega (arith, ints, u)))

-- the wave v of e degrees, by the octant
pub in_half : (o d e s : ℕ) (r : ℤ) (v : Wave) → (r *ℤ pos 256) ≤ℤ pos s → pos s <ℤ (r *ℤ pos 256 +ℤ pos 256) → o ≤ 3
    → (o % 2 ≡ 0 → e ≡ d) → (o % 2 ≡ 1 → e ≡ OCTANT - d)
    → (o ≡ 0 → v ≡ Sine) → (o ≡ 1 → v ≡ Cosine) → (o ≡ 2 → v ≡ Cosine) → (o ≡ 3 → v ≡ Sine)
    → (v ≡ Sine → (n : ℕ) (x : Fraction) → 8 ≤ n → IsInRadians e x → AreSineEndpoints x s n)
    → (v ≡ Cosine → (n : ℕ) (x : Fraction) → 9 ≤ n → IsInRadians e x → AreCosineEndpoints x s n)
    → HasPoint o d (r -ℤ pos 3) (r +ℤ pos 3)
in_half zero d e s r v l u b even odd w0 w1 w2 w3 f g =
    let h = f (w0 refl) in half_0 zero d s r l u refl (rw (even refl) at h)
in_half (suc zero) d e s r v l u b even odd w0 w1 w2 w3 f g =
    let h = g (w1 refl) in half_1 (suc zero) d s r l u refl (rw (odd refl) at h)
in_half (suc (suc zero)) d e s r v l u b even odd w0 w1 w2 w3 f g =
    let h = g (w2 refl) in half_2 (suc (suc zero)) d s r l u refl (rw (even refl) at h)
in_half (suc (suc (suc zero))) d e s r v l u b even odd w0 w1 w2 w3 f g =
    let h = f (w3 refl) in half_3 (suc (suc (suc zero))) d s r l u refl (rw (odd refl) at h)
in_half (suc (suc (suc (suc o)))) d e s r v l u b even odd w0 w1 w2 w3 f g = absurd (omega (arith, b))

pub later_half : (o d : ℕ) (r : ℤ) → 4 ≤ o → HasPoint (o - 4) d (r -ℤ pos 3) (r +ℤ pos 3)
    → HasPoint o d ((pos 0 -ℤ r) -ℤ pos 3) ((pos 0 -ℤ r) +ℤ pos 3)
unfolding HasPoint
later_half zero d r h k = absurd (omega (arith, h))
later_half (suc zero) d r h k = absurd (omega (arith, h))
later_half (suc (suc zero)) d r h k = absurd (omega (arith, h))
later_half (suc (suc (suc zero))) d r h k = absurd (omega (arith, h))
later_half (suc (suc (suc (suc j)))) d r h k =
    let e : suc (suc (suc (suc j))) - 4 ≡ j = omega arith in
    wider j d _ _ _ _ (omega (arith, ints)) (omega (arith, ints)) (rw e at k)

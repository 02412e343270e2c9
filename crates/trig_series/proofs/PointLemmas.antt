-- Spans at single angles of the first octant: they hold the series, and are near its endpoints. The code's number is
-- within 384 parts of 2^-64 of the series' endpoints (the chains), and the span is drawn around it in units of 2^-56.
-- At 0 degrees the series is computed symbolically, with an angle of 0, and at 45 degrees by the kernel's own numbers,
-- which are known.
use Rattle.std.proofs.Common.{ℕ, zero, suc, ◌+◌, ◌*◌, ◌-◌, ◌^◌, ◌≤◌, refl, arith, ℤ, pos, negsuc, ◌+ℤ◌, ◌-ℤ◌, ◌*ℤ◌}
use Rattle.std.proofs.Common.{◌≤ℤ◌, [], ◌∷◌}
use Rattle.std.proofs.lemmas.Int.{ints}
use Rattle.book_model.specs.Fraction.{Fraction, ◌≤F◌, ◌≈◌, whole, times}
use Rattle.book_model.specs.Interval.{Interval, everything, between, IsMember, IsProper, ◌⊆◌, product}
use Rattle.book_model.specs.Sums.{lower, upper, one_over}
use Rattle.book_model.proofs.Ring.{at, lit, ◌⊖◌, ◌⊗◌}
use Rattle.book_model.proofs.Fractions.{le_refl, le_trans}
use Rattle.book_model.proofs.FractionRing.{same_by}
use Rattle.book_model.proofs.Intervals.{within_trans, within_refl, product_within, product_proper}
use Rattle.book_model.proofs.Same.{same_refl, same_trans, le_of_same, ge_of_same, same_of_le, times_cong, plus_cong}
use Rattle.book_model.proofs.Same.{opposite_cong}
use Rattle.book_model.proofs.Certificates.{zero_F}
use Rattle.book_model.proofs.Narrowing.{at_least}
use Rattle.book_model.specs.programs.Leading.{units_of_56}
use Rattle.book_model.specs.numbers.Octants.{only, radians}
use Rattle.book_model.specs.numbers.Series.{sine_series, cosine_series, sine_term, cosine_term, four_fifths, double}
use Rattle.book_model.specs.numbers.Series.{pi_at}
use Rattle.book_model.proofs.Terms.{IsUpTo, falling}
use Rattle.book_model.proofs.Pi.{pi_number, pi_proper}
use Rattle.book_model.proofs.OctantHulls.{radians_proper}
use Rattle.book_model.proofs.SeriesNesting.{sines, cosines, inside_in}
use Rattle.encl_core.specs.Units.{at_64}
use Rattle.encl_core.specs.parts.TheConstants.{ONE, OCTANT}
use Rattle.trig_series.specs.Kernel.{in_radians, IsAngle, AreSineEndpoints, AreCosineEndpoints}
use Rattle.trig_series.specs.Points.{IsNearSine, IsNearCosine}
use Rattle.trig_series.proofs.AngleLemmas.{radians_in_angle, angle_in_radians, cosine_within}
use Rattle.trig_series.proofs.KernelAngles.{endpoints_product, product_endpoints, sine_there, cosine_there}
use Rattle.trig_series.proofs.KernelAngles.{radians_near, angle_between, by_lower}
use Rattle.encl_core.proofs.HighHalves.{IsHigh}
use Rattle.trig_series.proofs.KernelSteps.{step_near}
use Rattle.trig_series.proofs.SineChain.{sine_near, low_is as sine_low, high_is as sine_high, nested, flipped, step_at}
use Rattle.trig_series.proofs.SineChain.{Keeps, Chain, innermost}
use Rattle.trig_series.proofs.CosineChain.{Chain as CosineChain, innermost as cosine_innermost, cosine_near}
use Rattle.trig_series.proofs.CosineChain.{low_is as cosine_low, high_is as cosine_high}

-- ---- the endpoints around a number
pub low_end : (s e lo : ℤ) → (lo *ℤ pos 256 +ℤ e) ≤ℤ s → units_of_56 lo ≤F at_64 (s -ℤ e)
low_end s e lo h = record { cross = omega (arith, ints, h) }

pub high_end : (s e hi : ℤ) → s ≤ℤ (hi *ℤ pos 256 -ℤ e) → at_64 (s +ℤ e) ≤F units_of_56 hi
high_end s e hi h = record { cross = omega (arith, ints, h) }

pub endpoints_hold : (i : Interval) (s : ℕ) (e lo hi : ℤ) → i ⊆ between (at_64 (pos s -ℤ e)) (at_64 (pos s +ℤ e))
    → (lo *ℤ pos 256 +ℤ e) ≤ℤ pos s
    → pos s ≤ℤ (hi *ℤ pos 256 -ℤ e) → i ⊆ between (units_of_56 lo) (units_of_56 hi)
endpoints_hold i s e lo hi h l u =
    within_trans h (record { endpoints = (low_end (pos s) e lo l, high_end (pos s) e hi u) })

at_mono : (a b : ℤ) → a ≤ℤ b → at_64 a ≤F at_64 b
at_mono a b h = record { cross = omega (arith, ints, h) }

pub sine_close : (d s : ℕ) (lo hi : ℤ) → AreSineEndpoints (in_radians d) s 8 → pos s ≤ℤ (lo *ℤ pos 256 +ℤ pos 768)
    → (hi *ℤ pos 256 -ℤ pos 768) ≤ℤ pos s
    → IsNearSine d lo hi
sine_close d s lo hi a l u = record {
  low = le_trans _ _ _ a.high (at_mono _ _ (omega (arith, ints, l)));
  high = le_trans _ _ _ (at_mono _ _ (omega (arith, ints, u))) a.low;
}

pub cosine_close : (d s : ℕ) (lo hi : ℤ) → AreCosineEndpoints (in_radians d) s 9 → pos s ≤ℤ (lo *ℤ pos 256 +ℤ pos 768)
    → (hi *ℤ pos 256 -ℤ pos 768) ≤ℤ pos s
    → IsNearCosine d lo hi
cosine_close d s lo hi a l u = record {
  low = le_trans _ _ _ a.high (at_mono _ _ (omega (arith, ints, l)));
  high = le_trans _ _ _ (at_mono _ _ (omega (arith, ints, u))) a.low;
}

-- ---- an angle that is equal to so many degrees
radians_same : (n d : ℕ) (y : Fraction) → y ≈ units_of_56 (pos d) → radians n y ⊆ radians n (units_of_56 (pos d))
radians_same n d y e = within_trans (radians_in_angle n (pos d) y e) (angle_in_radians n (pos d))

pub sine_same : (n d : ℕ) (y : Fraction) (i : Interval) → y ≈ units_of_56 (pos d)
    → sine_series n (radians n (units_of_56 (pos d))) ⊆ i
    → sine_series n (radians n y) ⊆ i
sine_same n d y i e h = within_trans (sines.within n (radians_proper n y) (radians_same n d y e)) h

pub cosine_same : (n d : ℕ) (y : Fraction) (i : Interval) → 40 ≤ n → y ≈ units_of_56 (pos d)
    → cosine_series n (radians n (units_of_56 (pos d))) ⊆ i
    → cosine_series n (radians n y) ⊆ i
cosine_same n d y i l e h = within_trans (cosine_within n (omega (arith, l)) (radians_proper n y)
    (radians_same n d y e)) h

-- ---- at 0 degrees
zero_times : (z : Fraction) → times (units_of_56 (pos 0)) z ≈ zero_F
unfolding times
zero_times z = record { cross = omega (arith, ints) }

zero_member : (z : Fraction) → IsMember (times (units_of_56 (pos 0)) z) (between zero_F zero_F)
zero_member z = (ge_of_same (zero_times z), le_of_same (zero_times z))

zero_product : (a b c : Fraction) → product (only (units_of_56 (pos 0))) (product (between a b) (only c)) ⊆ between
    zero_F zero_F
zero_product a b c = rw (product_endpoints a b c) (endpoints_product (units_of_56 (pos 0)) _ _ zero_F zero_F
    (zero_member _) (zero_member _))

radians_zero : (n : ℕ) → 12 ≤ n → radians n (units_of_56 (pos 0)) ⊆ between zero_F zero_F
unfolding radians
radians_zero n m =
    within_trans
    (product_within (le_refl (units_of_56 (pos 0))) (product_proper (pi_at n) (only (one_over 179)) (pi_proper n)
    (le_refl (one_over 179)))
    (within_refl (only (units_of_56 (pos 0))))
    (product_within (pi_proper n) (le_refl (one_over 179)) (pi_number n m) (within_refl (only (one_over 179)))))
    (zero_product _ _ _)

zero_up_to : (x : Fraction) → x ≈ zero_F → IsUpTo 4 5 x
unfolding times
zero_up_to x e = record { nonneg = ge_of_same e; bound = record { cross = omega (arith, ints, e.cross) } }

no_product : (x V : Fraction) → x ≈ zero_F → times x V ≈ units_of_56 (pos 0)
unfolding times
no_product x V e = same_trans (times_cong e (same_refl V)) (record { cross = omega (arith, ints) })

-- the sine of 0 is 0, and the cosine is 1
pub sine_zero : (x : Fraction) → x ≈ zero_F → (units_of_56 (pos 0) ≤F lower (sine_term x) 8)
    × (upper (sine_term x) 8 ≤F units_of_56 (pos 0))
sine_zero x e = (
  le_trans _ _ _ (ge_of_same (no_product x _ e)) (sine_low x (zero_up_to x e)),
  le_trans _ _ _ (sine_high x (zero_up_to x e)) (le_of_same (no_product x _ e)),
)

no_square : (x : Fraction) → x ≈ zero_F → times x x ≈ zero_F
unfolding times
no_square x e = same_trans (times_cong e (same_refl x)) (record { cross = omega (arith, ints) })

no_step : (r u V : Fraction) → u ≈ zero_F → step_at r u V ≈ units_of_56 ONE
no_step r u V e =
    same_trans (plus_cong (same_refl (whole (pos 1)))
    (opposite_cong (times_cong (times_cong e (same_refl r)) (same_refl V))))
    (same_trans (same_by (r ∷ V ∷ []) (lit (pos 1) ⊖ (lit (pos 0) ⊗ at 0) ⊗ at 1) (lit (pos 1)) refl)
    (record { cross = omega (arith, ints) }))

nested_one : (u s : Fraction) (r : ℕ → Fraction) → u ≈ zero_F → nested u r s 9 ≈ units_of_56 ONE
unfolding nested
nested_one u s r e = no_step (r 0) u (nested u (λ k. r (suc k)) s 8) e

pub cosine_zero : (x : Fraction) → x ≈ zero_F → (units_of_56 ONE ≤F lower (cosine_term x) 9)
    × (upper (cosine_term x) 9 ≤F units_of_56 ONE)
cosine_zero x e =
    let n = λ (s : Fraction). nested_one (times x x) s (λ k. falling (double k)) (no_square x e) in (
      le_trans _ _ _ (ge_of_same (n (flipped (whole (negsuc 1)) 9))) (cosine_low x (zero_up_to x e)),
      le_trans _ _ _ (cosine_high x (zero_up_to x e)) (le_of_same (n (flipped (whole (pos 2)) 9))),
    )

both_zero : (x y : Fraction) → x ≤F y → between x y ⊆ between zero_F zero_F → (x ≈ zero_F) × (y ≈ zero_F)
both_zero x y p h = (
  same_of_le (le_trans _ _ _ p h.endpoints.1) h.endpoints.0,
  same_of_le h.endpoints.1
      (le_trans _ _ _ h.endpoints.0 p),
)

zero_fifths : zero_F ≤F four_fifths
zero_fifths = record { cross = omega (arith, ints) }

sine_none : (i : Interval) → IsProper i → i ⊆ between zero_F zero_F → sine_series 8 i ⊆ between (units_of_56 (pos 0))
    (units_of_56 (pos 0))
unfolding sine_series
sine_none everything p h = absurd h.endpoints
sine_none (between x y) p h =
    let z = both_zero x y p h in
    rw (inside_in zero_F four_fifths x y
    (record { above = h.endpoints.0; below = le_trans _ _ _ h.endpoints.1 zero_fifths }))
    (record { endpoints = ((sine_zero x z.0).0, (sine_zero y z.1).1) })

cosine_full : (i : Interval) → IsProper i → i ⊆ between zero_F zero_F → cosine_series 9 i ⊆ between (units_of_56 ONE)
    (units_of_56 ONE)
unfolding cosine_series
cosine_full everything p h = absurd h.endpoints
cosine_full (between x y) p h =
    let z = both_zero x y p h in
    rw (inside_in zero_F four_fifths x y
    (record { above = h.endpoints.0; below = le_trans _ _ _ h.endpoints.1 zero_fifths }))
    (record { endpoints = ((cosine_zero y z.1).0, (cosine_zero x z.0).1) })

cosine_deeper : (n : ℕ) (i : Interval) → 10 ≤ n → IsProper i → cosine_series n i ⊆ cosine_series 9 i
cosine_deeper zero i h p = absurd (omega arith)
cosine_deeper (suc n) i h p = at_least (λ m. cosine_series (suc m)) cosines 8 n (omega arith) p (within_refl i)

pub sine_of_none : (n : ℕ) → 40 ≤ n → sine_series n (radians n (units_of_56 (pos 0))) ⊆ between (units_of_56 (pos 0))
    (units_of_56 (pos 0))
sine_of_none n l =
    let p = radians_proper n (units_of_56 (pos 0)) in
    within_trans (at_least sine_series sines 8 n (omega (arith, l)) p (within_refl (radians n (units_of_56 (pos 0)))))
    (sine_none _ p (radians_zero n (omega (arith, l))))

pub cosine_of_none : (n : ℕ) → 40 ≤ n → cosine_series n (radians n (units_of_56 (pos 0))) ⊆ between (units_of_56 ONE)
    (units_of_56 ONE)
cosine_of_none n l =
    let p = radians_proper n (units_of_56 (pos 0)) in
    within_trans (cosine_deeper n (radians n (units_of_56 (pos 0))) (omega (arith, l)) p)
    (cosine_full _ p (radians_zero n (omega (arith, l))))

pub none_in_radians : in_radians 0 ≈ zero_F
none_in_radians = zero_times _

pub near_none : IsNearSine 0 (pos 0) (pos 0)
near_none =
    let z = sine_zero (in_radians 0) none_in_radians in
    record {
      low = le_trans _ _ _ z.1 (record { cross = omega (arith, ints) });
      high = le_trans _ _ _
          (record { cross = omega (arith, ints) }) z.0;
    }

pub near_full : IsNearCosine 0 ONE ONE
near_full =
    let z = cosine_zero (in_radians 0) none_in_radians in
    record {
      low = le_trans _ _ _ z.1 (record { cross = omega (arith, ints) });
      high = le_trans _ _ _
          (record { cross = omega (arith, ints) }) z.0;
    }

-- ---- at 45 degrees, where the kernel's numbers are known
pub keeps : (c w t h : ℕ) → IsHigh h w t → h ≤ c → 2 * t ≤ 2 ^ 64 → Keeps c w t (c - h)
keeps c w t h p k l C u v z i s n = step_near c w t h C u v p k l z i s n

pub high : (h w t : ℕ) → h * 2 ^ 64 ≤ w * t → w * t ≤ h * 2 ^ 64 + 2 ^ 64 → IsHigh h w t
high h w t p q = record { not_above = p; close = q }

pub eighth : IsAngle 14488038916154245630 (in_radians OCTANT)
eighth = angle_between OCTANT _ 7244019458077122815 _ _ (omega arith) refl refl refl (by_lower OCTANT)

sine_chain : Chain 11378879155978302076 51862 14074536 2953688836 460307848123 50550340485508 3628886277159895
    151484387782656051 2981014159346006776
    16607904669535111438
sine_chain = record {
  k8 = innermost 11378879155978302076;
  k7 = keeps 14106527 11378879155978302076 51862 31991 (high 31991 11378879155978302076 51862 (omega arith)
      (omega arith)) (omega arith) (omega arith);
  k6 =
      keeps 2962370717 11378879155978302076 14074536 8681881 (high 8681881 11378879155978302076 14074536 (omega arith)
      (omega arith)) (omega arith)
      (omega arith);
  k5 =
      keeps 462129831893 11378879155978302076 2953688836 1821983770 (high 1821983770 11378879155978302076 2953688836
      (omega arith) (omega arith)) (omega arith)
      (omega arith);
  k4 =
      keeps 50834281508238 11378879155978302076 460307848123 283941022730
      (high 283941022730 11378879155978302076 460307848123 (omega arith) (omega arith))
      (omega arith) (omega arith);
  k3 =
      keeps 3660068268593165 11378879155978302076 50550340485508 31181991433270
      (high 31181991433270 11378879155978302076 50550340485508 (omega arith) (omega arith)) (omega arith) (omega arith);
  k2 =
      keeps 153722867280912930 11378879155978302076 3628886277159895 2238479498256879
      (high 2238479498256879 11378879155978302076 3628886277159895 (omega arith) (omega arith)) (omega arith)
      (omega arith);
  k1 =
      keeps 3074457345618258602 11378879155978302076 151484387782656051 93443186272251826
      (high 93443186272251826 11378879155978302076 151484387782656051 (omega arith) (omega arith)) (omega arith)
      (omega arith);
  k0 =
      keeps 18446744073709551615 11378879155978302076 2981014159346006776 1838839404174440177
      (high 1838839404174440177 11378879155978302076 2981014159346006776 (omega arith) (omega arith)) (omega arith)
      (omega arith);
}

cosine_chain : CosineChain 11378879155978302076 2881 879880 211055154 38380629895 5059753048715 454387423514269
    25340188872969900 752983233927995943
    8758894121884635386 13043817825332782250
cosine_chain = record {
  k9 = cosine_innermost 11378879155978302076;
  k8 = keeps 881657 11378879155978302076 2881 1777 (high 1777 11378879155978302076 2881 (omega arith) (omega arith))
      (omega arith) (omega arith);
  k7 = keeps 211597908 11378879155978302076 879880 542754 (high 542754 11378879155978302076 879880 (omega arith)
      (omega arith)) (omega arith) (omega arith);
  k6 =
      keeps 38510819324 11378879155978302076 211055154 130189429
      (high 130189429 11378879155978302076 211055154 (omega arith) (omega arith)) (omega arith)
      (omega arith);
  k5 =
      keeps 5083428150823 11378879155978302076 38380629895 23675102108
      (high 23675102108 11378879155978302076 38380629895 (omega arith) (omega arith))
      (omega arith) (omega arith);
  k4 =
      keeps 457508533574145 11378879155978302076 5059753048715 3121110059876
      (high 3121110059876 11378879155978302076 5059753048715 (omega arith) (omega arith))
      (omega arith) (omega arith);
  k3 =
      keeps 25620477880152155 11378879155978302076 454387423514269 280289007182255
      (high 280289007182255 11378879155978302076 454387423514269 (omega arith) (omega arith)) (omega arith)
      (omega arith);
  k2 =
      keeps 768614336404564650 11378879155978302076 25340188872969900 15631102476568707
      (high 15631102476568707 11378879155978302076 25340188872969900 (omega arith) (omega arith)) (omega arith)
      (omega arith);
  k1 =
      keeps 9223372036854775808 11378879155978302076 752983233927995943 464477914970140422
      (high 464477914970140422 11378879155978302076 752983233927995943 (omega arith) (omega arith)) (omega arith)
      (omega arith);
  k0 =
      keeps 18446744073709551615 11378879155978302076 8758894121884635386 5402926248376769365
      (high 5402926248376769365 11378879155978302076 8758894121884635386 (omega arith) (omega arith)) (omega arith)
      (omega arith);
}

pub sine_eighth : (n : ℕ) (x : Fraction) → 8 ≤ n → IsAngle 14488038916154245630 x
    → AreSineEndpoints x 13043817825332782175 n
sine_eighth n x l i =
    sine_near n 14488038916154245630 11378879155978302076 51862 14074536 2953688836 460307848123 50550340485508
    3628886277159895 151484387782656051
    2981014159346006776 16607904669535111438 13043817825332782175 x l (omega arith) (omega arith)
    (high 11378879155978302076 14488038916154245630 14488038916154245630 (omega arith) (omega arith))
    (high 13043817825332782175 14488038916154245630 16607904669535111438 (omega arith) (omega arith)) i sine_chain

pub cosine_eighth : (n : ℕ) (x : Fraction) → 9 ≤ n → IsAngle 14488038916154245630 x
    → AreCosineEndpoints x 13043817825332782250 n
cosine_eighth n x l i =
    cosine_near n 14488038916154245630 11378879155978302076 2881 879880 211055154 38380629895 5059753048715
    454387423514269 25340188872969900 752983233927995943
    8758894121884635386 13043817825332782250 x l (omega arith)
    (high 11378879155978302076 14488038916154245630 14488038916154245630 (omega arith) (omega arith)) i cosine_chain

eighth_radians : (n : ℕ) → 40 ≤ n → radians n (units_of_56 (pos OCTANT)) ⊆ between (at_64 (pos 14488038916154245630))
    (at_64 (pos 14488038916154245630 +ℤ pos 68))
eighth_radians n l = radians_near n OCTANT 7244019458077122815 (omega (arith, l)) (omega arith) (omega arith)
    (omega arith)

pub sine_of_eighth : (n : ℕ) → 40 ≤ n → sine_series n (radians n (units_of_56 (pos OCTANT))) ⊆ between
    (units_of_56 (pos 50952413380206178))
    (units_of_56 (pos 50952413380206182))
sine_of_eighth n l =
    endpoints_hold _ 13043817825332782175 (pos 384) _ _ (sine_there n OCTANT 14488038916154245630 13043817825332782175
    (omega (arith, l)) (omega arith)
    (eighth_radians n l) (λ x m i. sine_eighth n x m i)) (omega (arith, ints)) (omega (arith, ints))

pub cosine_of_eighth : (n : ℕ) → 40 ≤ n
    → cosine_series n (radians n (units_of_56 (pos OCTANT))) ⊆ between (units_of_56 (pos 50952413380206178))
    (units_of_56 (pos 50952413380206182))
cosine_of_eighth n l =
    endpoints_hold _ 13043817825332782250 (pos 320) _ _ (cosine_there n OCTANT 14488038916154245630 13043817825332782250
    (omega (arith, l)) (omega arith)
    (eighth_radians n l) (λ x m i. cosine_eighth n x m i)) (omega (arith, ints)) (omega (arith, ints))

pub near_sine_eighth : IsNearSine OCTANT (pos 50952413380206178) (pos 50952413380206182)
near_sine_eighth = sine_close OCTANT 13043817825332782175 _ _ (sine_eighth 8 _ (omega arith) eighth)
    (omega (arith, ints)) (omega (arith, ints))

pub near_cosine_eighth : IsNearCosine OCTANT (pos 50952413380206178) (pos 50952413380206182)
near_cosine_eighth = cosine_close OCTANT 13043817825332782250 _ _ (cosine_eighth 9 _ (omega arith) eighth)
    (omega (arith, ints)) (omega (arith, ints))

-- ---- what the points' functions promise
pub sine_around : (d s : ℕ) (lo hi : ℤ) (n : ℕ) (y : Fraction)
    → sine_series n (radians n (units_of_56 (pos d))) ⊆ between (at_64 (pos s -ℤ pos 384)) (at_64 (pos s +ℤ pos 384))
    → (lo *ℤ pos 256 +ℤ pos 384) ≤ℤ pos s
    → pos s ≤ℤ (hi *ℤ pos 256 -ℤ pos 384) → y ≈ units_of_56 (pos d) → sine_series n (radians n y) ⊆ between
    (units_of_56 lo) (units_of_56 hi)
sine_around d s lo hi n y h l u e = sine_same n d y _ e (endpoints_hold _ s (pos 384) lo hi h l u)

pub cosine_around : (d s : ℕ) (lo hi : ℤ) (n : ℕ) (y : Fraction) → 40 ≤ n
    → cosine_series n (radians n (units_of_56 (pos d))) ⊆ between (at_64 (pos s -ℤ pos 320)) (at_64 (pos s +ℤ pos 320))
    → (lo *ℤ pos 256 +ℤ pos 384) ≤ℤ pos s
    → pos s ≤ℤ (hi *ℤ pos 256 -ℤ pos 384) → y ≈ units_of_56 (pos d) → cosine_series n (radians n y) ⊆ between
    (units_of_56 lo) (units_of_56 hi)
cosine_around d s lo hi n y m h l u e = cosine_same n d y _ m e
    (endpoints_hold _ s (pos 320) lo hi h (omega (arith, ints, l)) (omega (arith, ints, u)))

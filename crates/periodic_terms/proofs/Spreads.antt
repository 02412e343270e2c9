-- From the sines at one angle of an octant to those at another: they move by at most a 57th of the degrees. At one
-- depth of the series this is a law of the series in radians (`sine_slow` and its like of trig_series); here it is
-- brought to degrees in parts of 2^-56, both ways, and to the sine into each of the eight octants, which is a sine or a
-- cosine of the degrees or of what is left of the octant. The last part leads from there to the model's sine of
-- degrees.
use Rattle.std.proofs.Common.{ℕ, zero, suc, ◌-◌, ◌≤◌, refl, arith, neg_ℤ, ℤ, pos, negsuc, ◌+ℤ◌, ◌-ℤ◌, ◌*ℤ◌, ◌≤ℤ◌, []}
use Rattle.std.proofs.Common.{◌∷◌}
use Rattle.std.proofs.lemmas.Int.{ints, by_lt_z}
use Rattle.book_model.specs.Fraction.{Fraction, ◌≤F◌, ◌≈◌, plus}
use Rattle.book_model.specs.Interval.{between, ◌⊆◌}
use Rattle.book_model.specs.Sums.{lower, upper}
use Rattle.book_model.proofs.Certificates.{zero_F, ◌≼◌, ◌≗◌, known, multiple, ◌⊞◌, le_by}
use Rattle.book_model.proofs.Fractions.{le_trans}
use Rattle.book_model.proofs.Intervals.{within_trans}
use Rattle.book_model.proofs.Ring.{at, lit, ◌⊕◌}
use Rattle.book_model.specs.programs.Leading.{units_of_56}
use Rattle.book_model.specs.numbers.Octants.{radians, sine_into}
use Rattle.book_model.specs.numbers.Series.{sine_series, cosine_series, sine_term, cosine_term, four_fifths}
use Rattle.book_model.proofs.OctantHulls.{radians_proper}
use Rattle.book_model.proofs.SeriesNesting.{sines, sine_lowers, sine_uppers, cosine_lowers, cosine_uppers, inside_in}
use Rattle.encl_core.specs.parts.TheConstants.{OCTANT}
use Rattle.trig_series.specs.Kernel.{in_radians, in_radians_above}
use Rattle.trig_series.proofs.AngleLemmas.{cosine_within}
use Rattle.trig_series.proofs.Curves.{in_fifths, in_order}
use Rattle.trig_series.proofs.KernelAngles.{radians_over, radians_small}
use Rattle.trig_series.proofs.OctantLemmas.{order_at, span_opposite}
use Rattle.trig_series.proofs.PartLemmas.{above_in_order, above_fifths, above_close, lower_close, none_below, moved_up}
use Rattle.trig_series.proofs.PointLemmas.{sine_same, cosine_same}
use Rattle.trig_series.proofs.Slopes.{sine_slow, cosine_slow, cosine_upper_slow}
use Rattle.trig_series.proofs.Slopes.{sine_lower_slow}
use Rattle.trig_series.proofs.TurnLemmas.{short_count}
use Rattle.periodic_terms.specs.Turning.{HasSine, HasCosine, HasPoint}

-- an endpoint that is moved down
parted : (a b : ℤ) → units_of_56 a ≈ plus (units_of_56 (a -ℤ b)) (units_of_56 b)
unfolding plus
parted a b = record { cross = omega (arith, ints) }

moved_down : (a b x y : Fraction) (lo m : ℤ) → plus b x ≤F plus a y → units_of_56 lo ≤F b → y ≤F plus x (units_of_56 m)
    → units_of_56 (lo -ℤ m) ≤F a
moved_down a b x y lo m p q r =
    le_by (a ∷ b ∷ x ∷ y ∷ units_of_56 lo ∷ units_of_56 m ∷ units_of_56 (lo -ℤ m) ∷ [])
    ((at 1 ⊕ at 2 ≼ at 0 ⊕ at 3) ∷ (at 4 ≼ at 1) ∷ (at 3 ≼ at 2 ⊕ at 5) ∷ (at 4 ≗ at 6 ⊕ at 5) ∷ []) (at 6) (at 0)
    (known 0 ⊞ known 1 ⊞ known 2 ⊞ multiple 3 (lit (negsuc 0))) refl (p, (q, (r, (parted lo m, tt))))

-- ---- wider endpoints
pub sine_wider : (d : ℕ) (lo hi lo' hi' : ℤ) → lo' ≤ℤ lo → hi ≤ℤ hi' → HasSine d lo hi → HasSine d lo' hi'
sine_wider d lo hi lo' hi' l u h = record {
  low = λ n m. le_trans _ _ _ (order_at lo' lo l) (h.low n m);
  high =
      λ n m. le_trans _ _ _ (h.high n m) (order_at hi hi' u);
}

pub cosine_wider : (d : ℕ) (lo hi lo' hi' : ℤ) → lo' ≤ℤ lo → hi ≤ℤ hi' → HasCosine d lo hi → HasCosine d lo' hi'
cosine_wider d lo hi lo' hi' l u h = record {
  low = λ n m. le_trans _ _ _ (order_at lo' lo l) (h.low n m);
  high =
      λ n m. le_trans _ _ _ (h.high n m) (order_at hi hi' u);
}

pub wider : (j d : ℕ) (lo hi lo' hi' : ℤ) → lo' ≤ℤ lo → hi ≤ℤ hi' → HasPoint j d lo hi → HasPoint j d lo' hi'
unfolding HasPoint
wider zero d lo hi lo' hi' l u h = sine_wider d lo hi lo' hi' l u h
wider (suc zero) d lo hi lo' hi' l u h = cosine_wider _ lo hi lo' hi' l u h
wider (suc (suc zero)) d lo hi lo' hi' l u h = cosine_wider d lo hi lo' hi' l u h
wider (suc (suc (suc zero))) d lo hi lo' hi' l u h = sine_wider _ lo hi lo' hi' l u h
wider (suc (suc (suc (suc j)))) d lo hi lo' hi' l u h = wider j d _ _ _ _ (omega (arith, ints, u))
    (omega (arith, ints, l)) h

-- ---- at one depth, from one angle to another
module _ (d e : ℕ) (m : ℤ) (o : d ≤ e) (u : e ≤ OCTANT) (w : (pos e -ℤ pos d) ≤ℤ (pos 57 *ℤ m)) where
  first : d ≤ OCTANT
  first = omega (arith, o, u)

  positive : pos 0 ≤ℤ m
  positive = omega (arith, ints, o, w)

  sine_up : (n : ℕ) (hi : ℤ) → 40 ≤ n → upper (sine_term (in_radians_above d)) n ≤F units_of_56 hi
      → upper (sine_term (in_radians_above e)) n ≤F units_of_56 (hi +ℤ m)
  sine_up zero hi l h = absurd (omega (arith, l))
  sine_up (suc n) hi l h = moved_up _ _ _ _ hi m (sine_slow n _ _ (above_fifths d first) (above_fifths e u)
      (above_in_order d e o)) h (above_close d e m o w)

  sine_down : (n : ℕ) (lo : ℤ) → 40 ≤ n → units_of_56 lo ≤F lower (sine_term (in_radians e)) n
      → units_of_56 (lo -ℤ m) ≤F lower (sine_term (in_radians d)) n
  sine_down zero lo l h = absurd (omega (arith, l))
  sine_down (suc n) lo l h = moved_down _ _ _ _ lo m (sine_lower_slow n _ _ (in_fifths d first) (in_fifths e u)
      (in_order d e o)) h (lower_close d e m o w)

  cosine_up : (n : ℕ) (hi : ℤ) → 40 ≤ n → upper (cosine_term (in_radians e)) n ≤F units_of_56 hi
      → upper (cosine_term (in_radians d)) n ≤F units_of_56 (hi +ℤ m)
  cosine_up zero hi l h = absurd (omega (arith, l))
  cosine_up (suc zero) hi l h = absurd (omega (arith, l))
  cosine_up (suc (suc n)) hi l h = moved_up _ _ _ _ hi m (cosine_upper_slow n _ _ (in_fifths d first) (in_fifths e u)
      (in_order d e o)) h
      (lower_close d e m o w)

  cosine_down : (n : ℕ) (lo : ℤ) → 40 ≤ n → units_of_56 lo ≤F lower (cosine_term (in_radians_above d)) n
      → units_of_56 (lo -ℤ m) ≤F lower (cosine_term (in_radians_above e)) n
  cosine_down zero lo l h = absurd (omega (arith, l))
  cosine_down (suc zero) lo l h = absurd (omega (arith, l))
  cosine_down (suc (suc n)) lo l h = moved_down _ _ _ _ lo m
      (cosine_slow n _ _ (above_fifths d first) (above_fifths e u) (above_in_order d e o)) h
      (above_close d e m o w)

  cosine_top : (n : ℕ) → 40 ≤ n → upper (cosine_term (in_radians e)) n ≤F upper (cosine_term (in_radians d)) n
  cosine_top zero l = absurd (omega (arith, l))
  cosine_top (suc n) l = cosine_uppers n _ _ (in_fifths d first) (in_fifths e u) (in_order d e o)

  cosine_bottom : (n : ℕ) → 40 ≤ n → lower (cosine_term (in_radians_above e)) n ≤F lower
      (cosine_term (in_radians_above d)) n
  cosine_bottom zero l = absurd (omega (arith, l))
  cosine_bottom (suc n) l = cosine_lowers n _ _ (above_fifths d first) (above_fifths e u) (above_in_order d e o)

  -- ---- from the lesser angle to the greater, and back
  sine_later : (lo hi : ℤ) → HasSine d lo hi → HasSine e (lo -ℤ m) (hi +ℤ m)
  sine_later lo hi h = record {
    low = λ n l. le_trans _ _ _ (order_at (lo -ℤ m) lo (omega (arith, ints, positive)))
        (le_trans _ _ _ (h.low n l) (sine_lowers n _ _ (in_fifths d first) (in_fifths e u) (in_order d e o)));
    high = λ n l. sine_up n hi l (h.high n l);
  }

  sine_earlier : (lo hi : ℤ) → HasSine e lo hi → HasSine d (lo -ℤ m) (hi +ℤ m)
  sine_earlier lo hi h = record {
    low = λ n l. sine_down n lo l (h.low n l);
    high = λ n l. le_trans _ _ _ (sine_uppers n _ _ (above_fifths d first) (above_fifths e u) (above_in_order d e o))
        (le_trans _ _ _ (h.high n l) (order_at hi (hi +ℤ m) (omega (arith, ints, positive))));
  }

  cosine_later : (lo hi : ℤ) → HasCosine d lo hi → HasCosine e (lo -ℤ m) (hi +ℤ m)
  cosine_later lo hi h = record {
    low = λ n l. cosine_down n lo l (h.low n l);
    high = λ n l. le_trans _ _ _ (cosine_top n l)
        (le_trans _ _ _ (h.high n l) (order_at hi (hi +ℤ m) (omega (arith, ints, positive))));
  }

  cosine_earlier : (lo hi : ℤ) → HasCosine e lo hi → HasCosine d (lo -ℤ m) (hi +ℤ m)
  cosine_earlier lo hi h = record {
    low = λ n l. le_trans _ _ _ (order_at (lo -ℤ m) lo (omega (arith, ints, positive)))
        (le_trans _ _ _ (h.low n l) (cosine_bottom n l));
    high = λ n l. cosine_up n hi l (h.high n l);
  }

-- ---- both ways
abbrev pub AreClose : (d e : ℕ) (m : ℤ) → Type 0
AreClose d e m = ((pos e -ℤ pos d) ≤ℤ (pos 57 *ℤ m)) × ((pos d -ℤ pos e) ≤ℤ (pos 57 *ℤ m))

pub sine_spreads : (d e : ℕ) (lo hi m : ℤ) → d ≤ OCTANT → e ≤ OCTANT → AreClose d e m → HasSine d lo hi
    → HasSine e (lo -ℤ m) (hi +ℤ m)
sine_spreads d e lo hi m v u w h = by_lt_z (pos d) (pos e)
    (λ o. sine_later d e m (omega (arith, ints, o)) u w.0 lo hi h)
    (λ o. sine_earlier e d m (omega (arith, ints, o)) v w.1 lo hi h)

pub cosine_spreads : (d e : ℕ) (lo hi m : ℤ) → d ≤ OCTANT → e ≤ OCTANT → AreClose d e m → HasCosine d lo hi
    → HasCosine e (lo -ℤ m) (hi +ℤ m)
cosine_spreads d e lo hi m v u w h = by_lt_z (pos d) (pos e)
    (λ o. cosine_later d e m (omega (arith, ints, o)) u w.0 lo hi h)
    (λ o. cosine_earlier e d m (omega (arith, ints, o)) v w.1 lo hi h)

shorter : (d e : ℕ) (m : ℤ) → d ≤ OCTANT → e ≤ OCTANT → AreClose d e m → AreClose (OCTANT - d) (OCTANT - e) m
shorter d e m v u w = (omega (arith, ints, v, u, w.1), omega (arith, ints, v, u, w.0))

pub spreads : (j d e : ℕ) (lo hi m : ℤ) → d ≤ OCTANT → e ≤ OCTANT → AreClose d e m → HasPoint j d lo hi
    → HasPoint j e (lo -ℤ m) (hi +ℤ m)
unfolding HasPoint
spreads zero d e lo hi m v u w h = sine_spreads d e lo hi m v u w h
spreads (suc zero) d e lo hi m v u w h = cosine_spreads _ _ lo hi m (omega arith) (omega arith) (shorter d e m v u w) h
spreads (suc (suc zero)) d e lo hi m v u w h = cosine_spreads d e lo hi m v u w h
spreads (suc (suc (suc zero))) d e lo hi m v u w h = sine_spreads _ _ lo hi m (omega arith) (omega arith)
    (shorter d e m v u w) h
spreads (suc (suc (suc (suc j)))) d e lo hi m v u w h =
    wider j e _ _ _ _ (omega (arith, ints)) (omega (arith, ints)) (spreads j d e (neg_ℤ hi) (neg_ℤ lo) m v u w h)

-- ---- the model's sine there
sine_there : (n d : ℕ) (lo hi : ℤ) → 40 ≤ n → d ≤ OCTANT → HasSine d lo hi
    → sine_series n (between (in_radians d) (in_radians_above d)) ⊆ between (units_of_56 lo) (units_of_56 hi)
unfolding sine_series
sine_there n d lo hi l u h = rw (inside_in zero_F four_fifths (in_radians d) (in_radians_above d)
    (record { above = none_below d; below = radians_small d u })) (record { endpoints = (h.low n l, h.high n l) })

cosine_there : (n d : ℕ) (lo hi : ℤ) → 40 ≤ n → d ≤ OCTANT → HasCosine d lo hi
    → cosine_series n (between (in_radians d) (in_radians_above d)) ⊆ between (units_of_56 lo) (units_of_56 hi)
unfolding cosine_series
cosine_there n d lo hi l u h = rw (inside_in zero_F four_fifths (in_radians d) (in_radians_above d)
    (record { above = none_below d; below = radians_small d u })) (record { endpoints = (h.low n l, h.high n l) })

sine_holds : (n d : ℕ) (y : Fraction) (lo hi : ℤ) → 40 ≤ n → d ≤ OCTANT → y ≈ units_of_56 (pos d) → HasSine d lo hi
    → sine_series n (radians n y) ⊆ between (units_of_56 lo) (units_of_56 hi)
sine_holds n d y lo hi l u e h = sine_same n d y _ e
    (within_trans (sines.within n (radians_proper n (units_of_56 (pos d)))
    (radians_over n d (omega (arith, l)))) (sine_there n d lo hi l u h))

cosine_holds : (n d : ℕ) (y : Fraction) (lo hi : ℤ) → 40 ≤ n → d ≤ OCTANT → y ≈ units_of_56 (pos d) → HasCosine d lo hi
    → cosine_series n (radians n y) ⊆ between (units_of_56 lo) (units_of_56 hi)
cosine_holds n d y lo hi l u e h = cosine_same n d y _ l e (within_trans
    (cosine_within n (omega (arith, l)) (radians_proper n (units_of_56 (pos d))) (radians_over n d (omega (arith, l))))
    (cosine_there n d lo hi l u h))

-- what a point says of the sine into an octant
pub point_holds : (j n d : ℕ) (y : Fraction) (lo hi : ℤ) → 40 ≤ n → d ≤ OCTANT → y ≈ units_of_56 (pos d)
    → HasPoint j d lo hi
    → sine_into n j y ⊆ between (units_of_56 lo) (units_of_56 hi)
unfolding sine_into HasPoint
point_holds zero n d y lo hi l u e h = sine_holds n d y lo hi l u e h
point_holds (suc zero) n d y lo hi l u e h = cosine_holds n _ _ lo hi l (omega arith) (short_count d y u e) h
point_holds (suc (suc zero)) n d y lo hi l u e h = cosine_holds n d y lo hi l u e h
point_holds (suc (suc (suc zero))) n d y lo hi l u e h = sine_holds n _ _ lo hi l (omega arith) (short_count d y u e) h
point_holds (suc (suc (suc (suc j)))) n d y lo hi l u e h = span_opposite (sine_into n j y) (neg_ℤ hi) (neg_ℤ lo) lo hi
    (omega (arith, ints))
    (omega (arith, ints)) (point_holds j n d y _ _ l u e h)

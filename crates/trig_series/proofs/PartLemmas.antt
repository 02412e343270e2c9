-- The series over a part of an octant, from their endpoints at its first angle. From one angle to a later one of the
-- octant the endpoints move by at most the angle (`Slopes`), which is less than a 57th of the degrees: so the span at
-- the first angle, moved by that, holds both. That a part lies near 0, or near 1, is shown for the first half turn, and
-- carried to all octants by cases.
use Rattle.std.proofs.Common.{◌≡◌, ℕ, zero, suc, ◌-◌, ◌≤◌, refl, arith, neg_ℤ, unsigned_abs, ℤ, pos, negsuc, ◌+ℤ◌, ◌-ℤ◌}
use Rattle.std.proofs.Common.{◌*ℤ◌, ◌≤ℤ◌, ◌<ℤ◌, [], ◌∷◌}
use Rattle.std.proofs.lemmas.Int.{ints, clamps, by_lt_z}
use Rattle.book_model.specs.Fraction.{Fraction, ◌≤F◌, ◌≈◌, plus, times}
use Rattle.book_model.specs.Interval.{between, ◌⊆◌}
use Rattle.book_model.specs.Sums.{upper}
use Rattle.book_model.proofs.Alternating.{sum_endpoints_in_order}
use Rattle.book_model.proofs.Certificates.{zero_F, ◌≼◌, ◌≗◌, known, multiple, ◌⊞◌, le_by}
use Rattle.book_model.proofs.Fractions.{le_trans}
use Rattle.book_model.proofs.Intervals.{within_trans}
use Rattle.book_model.proofs.Ring.{at, lit, ◌⊕◌}
use Rattle.book_model.specs.programs.Leading.{units_of_56}
use Rattle.book_model.specs.numbers.Octants.{radians, octant_of_turn, sine_into, sine_at, sine_in}
use Rattle.book_model.specs.numbers.Series.{sine_series, cosine_series, sine_term, four_fifths}
use Rattle.book_model.proofs.OctantHulls.{radians_proper}
use Rattle.book_model.proofs.SeriesNesting.{sines, sine_lowers, cosine_lowers, inside_in}
use Rattle.book_model.proofs.Terms.{IsUpTo, sine_halving}
use Rattle.encl_core.specs.Units.{at_64}
use Rattle.encl_core.specs.parts.TheConstants.{OCTANT, QUARTER}
use Rattle.trig_series.specs.Kernel.{in_radians, in_radians_above, IsInRadians, AreSineEndpoints, AreCosineEndpoints}
use Rattle.trig_series.specs.Points.{IsAround, IsRising, IsCrest, IsPart, IsInside}
use Rattle.trig_series.proofs.AngleLemmas.{at_in_turn, cosine_within}
use Rattle.trig_series.proofs.KernelAngles.{by_lower, by_upper, radians_over, radians_small}
use Rattle.trig_series.proofs.OctantLemmas.{in_holds}
use Rattle.trig_series.proofs.PointLemmas.{low_end, high_end, sine_same, cosine_same, sine_zero, none_in_radians}
use Rattle.trig_series.proofs.Slopes.{sine_slow, cosine_upper_slow}
use Rattle.trig_series.proofs.Curves.{in_fifths, in_order, sine_above, cosine_above}
use Rattle.trig_series.proofs.Steady.{more_crest}

-- ---- angles by the upper neighbour of pi
pub above_in_order : (d e : ℕ) → d ≤ e → in_radians_above d ≤F in_radians_above e
unfolding times
above_in_order d e h = record { cross = omega (arith, ints, h) }

pub above_fifths : (d : ℕ) → d ≤ OCTANT → IsUpTo 4 5 (in_radians_above d)
unfolding times
above_fifths d h = record {
  nonneg = record { cross = omega (arith, ints) };
  bound = record { cross = omega (arith, ints, h) };
}

-- a degree is less than a 57th of a radian
pub above_close : (d e : ℕ) (m : ℤ) → d ≤ e → (pos e -ℤ pos d) ≤ℤ (pos 57 *ℤ m)
    → in_radians_above e ≤F plus (in_radians_above d) (units_of_56 m)
unfolding plus times
above_close d e m o h = record { cross = omega (arith, ints, o, h) }

-- ---- endpoints that are moved
pub joined : (a b : ℤ) → units_of_56 (a +ℤ b) ≈ plus (units_of_56 a) (units_of_56 b)
unfolding plus
joined a b = record { cross = omega (arith, ints) }

pub moved_up : (a b x y : Fraction) (hi m : ℤ) → plus a x ≤F plus b y → b ≤F units_of_56 hi
    → y ≤F plus x (units_of_56 m) → a ≤F units_of_56 (hi +ℤ m)
moved_up a b x y hi m p q r =
    le_by (a ∷ b ∷ x ∷ y ∷ units_of_56 hi ∷ units_of_56 m ∷ units_of_56 (hi +ℤ m) ∷ [])
    ((at 0 ⊕ at 2 ≼ at 1 ⊕ at 3) ∷ (at 1 ≼ at 4) ∷ (at 3 ≼ at 2 ⊕ at 5) ∷ (at 6 ≗ at 4 ⊕ at 5) ∷ []) (at 0) (at 6)
    (known 0 ⊞ known 1 ⊞ known 2 ⊞ multiple 3 (lit (negsuc 0))) refl (p, (q, (r, (joined hi m, tt))))

-- ---- from the first angle of a part to a later one
pub none_below : (d : ℕ) → zero_F ≤F in_radians d
unfolding times
none_below d = record { cross = omega (arith, ints) }

sine_from : (n d e s : ℕ) (lo hi m : ℤ) → d ≤ e → e ≤ OCTANT → (pos e -ℤ pos d) ≤ℤ (pos 57 *ℤ m)
    → ((x : Fraction) → IsInRadians d x → AreSineEndpoints x s (suc n))
    → (lo *ℤ pos 256 +ℤ pos 384) ≤ℤ pos s → pos s ≤ℤ (hi *ℤ pos 256 -ℤ pos 384)
    → sine_series (suc n) (between (in_radians e) (in_radians_above e)) ⊆ between (units_of_56 lo)
    (units_of_56 (hi +ℤ m))
unfolding sine_series
sine_from n d e s lo hi m o u w f l r =
    let v : d ≤ OCTANT = omega (arith, o, u) in
    rw (inside_in zero_F four_fifths (in_radians e) (in_radians_above e)
    (record { above = none_below e; below = radians_small e u }))
    (record {
      endpoints = (
        le_trans _ _ _ (low_end (pos s) (pos 384) lo l) (le_trans _ _ _ (f _ (by_lower d)).low
            (sine_lowers (suc n) _ _ (in_fifths d v) (in_fifths e u) (in_order d e o))),
        moved_up _ _ _ _ hi m (sine_slow n _ _ (above_fifths d v) (above_fifths e u) (above_in_order d e o))
            (le_trans _ _ _ (f _ (by_upper d)).high (high_end (pos s) (pos 384) hi r)) (above_close d e m o w),
      );
    })

-- and from the last angle of a part to an earlier one
pub lower_close : (d e : ℕ) (m : ℤ) → d ≤ e → (pos e -ℤ pos d) ≤ℤ (pos 57 *ℤ m)
    → in_radians e ≤F plus (in_radians d) (units_of_56 m)
unfolding plus times
lower_close d e m o h = record { cross = omega (arith, ints, o, h) }

cosine_from : (n d e s : ℕ) (lo hi m : ℤ) → d ≤ e → e ≤ OCTANT → (pos e -ℤ pos d) ≤ℤ (pos 57 *ℤ m)
    → ((x : Fraction) → IsInRadians e x → AreCosineEndpoints x s (suc (suc n)))
    → (lo *ℤ pos 256 +ℤ pos 384) ≤ℤ pos s → pos s ≤ℤ (hi *ℤ pos 256 -ℤ pos 384)
    → cosine_series (suc (suc n)) (between (in_radians d) (in_radians_above d)) ⊆ between (units_of_56 lo)
    (units_of_56 (hi +ℤ m))
unfolding cosine_series
cosine_from n d e s lo hi m o u w f l r =
    let v : d ≤ OCTANT = omega (arith, o, u) in
    rw (inside_in zero_F four_fifths (in_radians d) (in_radians_above d)
    (record { above = none_below d; below = radians_small d v }))
    (record {
      endpoints = (
        le_trans _ _ _ (low_end (pos s) (pos 320) lo (omega (arith, ints, l)))
            (le_trans _ _ _ (f _ (by_upper e)).low (cosine_lowers (suc n) _ _ (above_fifths d v) (above_fifths e u)
            (above_in_order d e o))),
        moved_up _ _ _ _ hi m (cosine_upper_slow n _ _ (in_fifths d v) (in_fifths e u) (in_order d e o))
            (le_trans _ _ _ (f _ (by_lower e)).high (high_end (pos s) (pos 320) hi (omega (arith, ints, r))))
            (lower_close d e m o w),
      );
    })

pub sine_part_holds : (n d e s : ℕ) (y : Fraction) (lo hi m : ℤ) → 40 ≤ n → d ≤ e → e ≤ OCTANT
    → (pos e -ℤ pos d) ≤ℤ (pos 57 *ℤ m)
    → ((k : ℕ) (x : Fraction) → 8 ≤ k → IsInRadians d x → AreSineEndpoints x s k)
    → (lo *ℤ pos 256 +ℤ pos 384) ≤ℤ pos s → pos s ≤ℤ (hi *ℤ pos 256 -ℤ pos 384) → y ≈ units_of_56 (pos e)
    → sine_series n (radians n y) ⊆ between (units_of_56 lo) (units_of_56 (hi +ℤ m))
sine_part_holds zero d e s y lo hi m h o u w f l r g = absurd (omega (arith, h))
sine_part_holds (suc n) d e s y lo hi m h o u w f l r g =
    sine_same (suc n) e y _ g
    (within_trans (sines.within (suc n) (radians_proper (suc n) (units_of_56 (pos e)))
    (radians_over (suc n) e (omega (arith, h))))
    (sine_from n d e s lo hi m o u w (λ x t. f (suc n) x (omega (arith, h)) t) l r))

pub cosine_part_holds : (n d e s : ℕ) (y : Fraction) (lo hi m : ℤ) → 40 ≤ n → d ≤ e → e ≤ OCTANT
    → (pos e -ℤ pos d) ≤ℤ (pos 57 *ℤ m)
    → ((k : ℕ) (x : Fraction) → 9 ≤ k → IsInRadians e x → AreCosineEndpoints x s k)
    → (lo *ℤ pos 256 +ℤ pos 384) ≤ℤ pos s → pos s ≤ℤ (hi *ℤ pos 256 -ℤ pos 384) → y ≈ units_of_56 (pos d)
    → cosine_series n (radians n y) ⊆ between (units_of_56 lo) (units_of_56 (hi +ℤ m))
cosine_part_holds zero d e s y lo hi m h o u w f l r g = absurd (omega (arith, h))
cosine_part_holds (suc zero) d e s y lo hi m h o u w f l r g = absurd (omega (arith, h))
cosine_part_holds (suc (suc n)) d e s y lo hi m h o u w f l r g =
    cosine_same (suc (suc n)) d y _ h g
    (within_trans (cosine_within (suc (suc n)) (omega (arith, h)) (radians_proper (suc (suc n)) (units_of_56 (pos d)))
    (radians_over (suc (suc n)) d (omega (arith, h))))
    (cosine_from n d e s lo hi m o u w (λ x t. f (suc (suc n)) x (omega (arith, h)) t) l r))

-- ---- near 0 degrees the sine is near 0, and the cosine near 1
no_part : units_of_56 (pos 0) ≤F zero_F
no_part = record { cross = omega (arith, ints) }

-- the sine is at most its angle
sine_up_to : (d s : ℕ) → d ≤ OCTANT → AreSineEndpoints (in_radians d) s 8 → at_64 (pos s -ℤ pos 384) ≤F in_radians d
sine_up_to d s u h =
    let y = in_fifths d u in
    let z = sine_zero (in_radians 0) none_in_radians in
    le_trans _ _ _ h.low
    (le_trans _ _ _ (sum_endpoints_in_order 8 (sine_term (in_radians d)) ((sine_halving (in_radians d) y).nonneg 9))
    (le_by (upper (sine_term (in_radians d)) 8 ∷ upper (sine_term (in_radians 0)) 8 ∷ in_radians d ∷ in_radians 0 ∷ [])
    ((at 0 ⊕ at 3 ≼ at 1 ⊕ at 2) ∷ (at 1 ≼ lit (pos 0)) ∷ (at 3 ≗ lit (pos 0)) ∷ []) (at 0) (at 2)
    (known 0 ⊞ known 1 ⊞ multiple 2 (lit (negsuc 0))) refl (
      sine_slow 7 _ _ (in_fifths 0 (omega arith)) y (in_order 0 d (omega arith)),
      (le_trans _ _ _ z.1 no_part, (none_in_radians, tt)),
    )))

below_angle : (d : ℕ) (a : ℤ) → at_64 a ≤F in_radians d → (pos 57 *ℤ a) ≤ℤ (pos d *ℤ pos 256)
unfolding times
below_angle d a h = omega (arith, ints, h.cross)

pub sine_part_near : (d e s : ℕ) (lo hi m : ℤ) → d ≤ e → e ≤ OCTANT → (pos 57 *ℤ m) ≤ℤ ((pos e -ℤ pos d) +ℤ pos 56)
    → AreSineEndpoints (in_radians d) s 8
    → pos s ≤ℤ (lo *ℤ pos 256 +ℤ pos 767) → (hi *ℤ pos 256 -ℤ pos 768) ≤ℤ pos s → IsRising (pos d) (pos e) lo (hi +ℤ m)
sine_part_near d e s lo hi m o u w h l r =
    let a = below_angle d (pos s -ℤ pos 384) (sine_up_to d s (omega (arith, o, u)) h) in
    let b = sine_above d (pos s +ℤ pos 384) (omega (arith, o, u)) h.high in
    record { up = omega (arith, ints, a, r, w, o); down = omega (arith, ints, b, l) }

pub cosine_part_near : (e s : ℕ) (lo : ℤ) → e ≤ OCTANT → AreCosineEndpoints (in_radians e) s 9
    → pos s ≤ℤ (lo *ℤ pos 256 +ℤ pos 767) → IsCrest (pos e) lo
cosine_part_near e s lo u h l = let a = cosine_above e (pos s +ℤ pos 320) u h.high in
    record { down = omega (arith, ints, a, l) }

-- ---- the octants of the first half turn
pub part_0 : (o : ℤ) (f t : ℕ) (lo hi : ℤ) → o ≡ pos 0 → IsRising (pos f) (pos t) lo hi
    → IsPart (unsigned_abs o) f t lo hi
unfolding IsPart
part_0 o f t lo hi e h = rw e h

pub part_1 : (o : ℤ) (f t : ℕ) (lo hi : ℤ) → o ≡ pos 1 → IsCrest (pos (OCTANT - f)) lo
    → IsPart (unsigned_abs o) f t lo hi
unfolding IsPart
part_1 o f t lo hi e h = rw e h

pub part_2 : (o : ℤ) (f t : ℕ) (lo hi : ℤ) → o ≡ pos 2 → IsCrest (pos t) lo → IsPart (unsigned_abs o) f t lo hi
unfolding IsPart
part_2 o f t lo hi e h = rw e h

pub part_3 : (o : ℤ) (f t : ℕ) (lo hi : ℤ) → o ≡ pos 3 → IsRising (pos (OCTANT - t)) (pos (OCTANT - f)) lo hi
    → IsPart (unsigned_abs o) f t lo hi
unfolding IsPart
part_3 o f t lo hi e h = rw e h

-- ---- four octants later the sign is the other
twice_opposite : (a b : ℤ) → a ≡ neg_ℤ b → neg_ℤ a ≡ b
twice_opposite a b e = omega (arith, ints, e)

pub later_part : (o : ℤ) (f t : ℕ) (a b lo hi : ℤ) → pos 4 ≤ℤ o → lo ≡ neg_ℤ b → hi ≡ neg_ℤ a
    → IsPart (unsigned_abs (o -ℤ pos 4)) f t a b
    → IsPart (unsigned_abs o) f t lo hi
unfolding IsPart
later_part (negsuc m) f t a b lo hi h p q k = absurd (omega (arith, ints))
later_part (pos zero) f t a b lo hi h p q k = absurd (omega (arith, ints))
later_part (pos (suc zero)) f t a b lo hi h p q k = absurd (omega (arith, ints))
later_part (pos (suc (suc zero))) f t a b lo hi h p q k = absurd (omega (arith, ints))
later_part (pos (suc (suc (suc zero)))) f t a b lo hi h p q k = absurd (omega (arith, ints))
later_part (pos (suc (suc (suc (suc j))))) f t a b lo hi h p q k =
    let e : pos (suc (suc (suc (suc j)))) -ℤ pos 4 ≡ pos j = omega (arith, ints) in
    let r = rw e at k in
    rw (twice_opposite hi a q, twice_opposite lo b p) r

-- ---- the octants of all turns
pub turned_part : (k o : ℤ) (f t : ℕ) (lo hi : ℤ) → o ≡ pos (octant_of_turn k) → IsPart (unsigned_abs o) f t lo hi
    → IsPart (octant_of_turn k) f t lo hi
turned_part k o f t lo hi e h = rw e at h

-- both endpoints of a part have their sines in its span
pub within_holds : (n : ℕ) (k o lo hi a b : ℤ) → o ≡ pos (octant_of_turn k) → (k *ℤ pos OCTANT) ≤ℤ lo → lo ≤ℤ hi
    → hi ≤ℤ (k *ℤ pos OCTANT +ℤ pos OCTANT)
    → ((d : ℕ) (y : Fraction) → unsigned_abs (lo -ℤ k *ℤ pos OCTANT) ≤ d → d ≤ unsigned_abs (hi -ℤ k *ℤ pos OCTANT)
    → y ≈ units_of_56 (pos d)
    → sine_into n (unsigned_abs o) y ⊆ between (units_of_56 a) (units_of_56 b))
    → sine_in n (units_of_56 lo) (units_of_56 hi) k ⊆ between (units_of_56 a) (units_of_56 b)
within_holds n k o lo hi a b e from ordered to h =
    in_holds n k lo hi lo hi a b a b a b (omega (arith, ints, clamps, from, ordered))
    (omega (arith, ints, clamps, to, ordered))
    (at_count lo from ordered (omega (arith, ints))) (at_count hi (omega (arith, ints, from, ordered))
    (omega (arith, ints)) ordered)
    (omega (arith, ints, clamps)) (omega (arith, ints, clamps))
  where
    at_count : (p : ℤ) → (k *ℤ pos OCTANT) ≤ℤ p → p ≤ℤ hi → lo ≤ℤ p → (z : Fraction) → z ≈ units_of_56 p
        → sine_at n k z ⊆ between (units_of_56 a) (units_of_56 b)
    at_count p l u v z same =
        let c : pos (unsigned_abs (p -ℤ k *ℤ pos OCTANT)) ≡ p -ℤ k *ℤ pos OCTANT = omega (arith, ints, l) in
        at_in_turn n k o p z _ e same (λ y t. h (unsigned_abs (p -ℤ k *ℤ pos OCTANT)) y
        (omega (arith, ints, l, v, from)) (omega (arith, ints, l, u)) (rw c t))

-- a part of octant k
record LiesOver (k lo hi a b : ℤ) : Type 0 where
  part : IsPart (octant_of_turn k) (unsigned_abs (lo -ℤ k *ℤ pos OCTANT)) (unsigned_abs (hi -ℤ k *ℤ pos OCTANT)) a b
  from : (k *ℤ pos OCTANT) ≤ℤ lo
  ordered : lo ≤ℤ hi
  to : hi ≤ℤ (k *ℤ pos OCTANT +ℤ pos OCTANT)

by_octant : (k m lo hi a b : ℤ) → k ≡ m → LiesOver k lo hi a b → LiesOver m lo hi a b
by_octant k m lo hi a b e h = rw e at h

rising_around : (f t w a b : ℤ) → pos 0 ≤ℤ f → pos 0 ≤ℤ w → t ≤ℤ w → IsRising f t a b → IsAround (pos 0) w a b
rising_around f t w a b n z l h = record { up = omega (arith, ints, l, h.up); down = omega (arith, ints, n, z, h.down) }

opposite_around : (w a b : ℤ) → IsAround (pos 0) w (neg_ℤ b) (neg_ℤ a) → IsAround (pos 0) w a b
opposite_around w a b h = record { up = omega (arith, ints, h.down); down = omega (arith, ints, h.up) }

small_7 : (lo hi a b w : ℤ) → neg_ℤ w ≤ℤ lo → LiesOver (negsuc 0) lo hi a b → IsAround (pos 0) w a b
unfolding IsPart
small_7 lo hi a b w l h =
    opposite_around w a b
    (rising_around _ _ w _ _ (omega (arith, ints)) (omega (arith, ints, l, h.from, h.ordered, h.to))
    (omega (arith, ints, l, h.from, h.ordered, h.to)) h.part)

small_0 : (lo hi a b w : ℤ) → hi ≤ℤ w → LiesOver (pos 0) lo hi a b → IsAround (pos 0) w a b
unfolding IsPart
small_0 lo hi a b w u h =
    rising_around _ _ w _ _ (omega (arith, ints)) (omega (arith, ints, u, h.from, h.ordered))
    (omega (arith, ints, u, h.from, h.ordered)) h.part

crest_1 : (lo hi a b w : ℤ) → (QUARTER -ℤ w) ≤ℤ lo → LiesOver (pos 1) lo hi a b → IsCrest w a
unfolding IsPart
crest_1 lo hi a b w l h = more_crest _ w a (omega (arith, ints)) (omega (arith, ints, l, h.from, h.ordered, h.to))
    h.part

crest_2 : (lo hi a b w : ℤ) → hi ≤ℤ (QUARTER +ℤ w) → LiesOver (pos 2) lo hi a b → IsCrest w a
unfolding IsPart
crest_2 lo hi a b w u h = more_crest _ w a (omega (arith, ints)) (omega (arith, ints, u, h.from, h.ordered)) h.part

pub part_small : (k lo hi a b : ℤ) → IsPart (octant_of_turn k) (unsigned_abs (lo -ℤ k *ℤ pos OCTANT))
    (unsigned_abs (hi -ℤ k *ℤ pos OCTANT)) a b
    → (k *ℤ pos OCTANT) ≤ℤ lo → lo ≤ℤ hi → hi ≤ℤ (k *ℤ pos OCTANT +ℤ pos OCTANT)
    → (w : ℤ) → neg_ℤ w ≤ℤ lo → hi ≤ℤ w → w <ℤ pos OCTANT → IsAround (pos 0) w a b
part_small k lo hi a b p f o t w l u s =
    let h : LiesOver k lo hi a b = record { part = p; from = f; ordered = o; to = t } in
    by_lt_z k (pos 0)
    (λ m. small_7 lo hi a b w l (by_octant k (negsuc 0) lo hi a b (omega (arith, ints, m, l, o, t, s)) h))
    (λ m. small_0 lo hi a b w u (by_octant k (pos 0) lo hi a b (omega (arith, ints, m, u, o, f, s)) h))

pub part_crest : (k lo hi a b : ℤ) → IsPart (octant_of_turn k) (unsigned_abs (lo -ℤ k *ℤ pos OCTANT))
    (unsigned_abs (hi -ℤ k *ℤ pos OCTANT)) a b
    → (k *ℤ pos OCTANT) ≤ℤ lo → lo ≤ℤ hi → hi ≤ℤ (k *ℤ pos OCTANT +ℤ pos OCTANT)
    → (w : ℤ) → (QUARTER -ℤ w) ≤ℤ lo → hi ≤ℤ (QUARTER +ℤ w) → w <ℤ pos OCTANT → IsCrest w a
part_crest k lo hi a b p f o t w l u s =
    let h : LiesOver k lo hi a b = record { part = p; from = f; ordered = o; to = t } in
    by_lt_z k (pos 2)
    (λ m. crest_1 lo hi a b w l (by_octant k (pos 1) lo hi a b (omega (arith, ints, m, l, o, t, s)) h))
    (λ m. crest_2 lo hi a b w u (by_octant k (pos 2) lo hi a b (omega (arith, ints, m, u, o, f, s)) h))

-- ---- degrees lie inside one octant alone
pub begun_elsewhere : (k m lo hi : ℤ) → (m *ℤ pos OCTANT) ≤ℤ lo → lo ≤ℤ (m *ℤ pos OCTANT) → lo ≤ℤ hi → IsInside k lo hi
    → ⊥
begun_elsewhere k m lo hi h l o i = omega (arith, ints, h, l, o, i.above, i.below)

pub ended_elsewhere : (k m lo hi : ℤ) → lo <ℤ (m *ℤ pos OCTANT +ℤ pos OCTANT) → (m *ℤ pos OCTANT +ℤ pos OCTANT) ≤ℤ hi
    → IsInside k lo hi → ⊥
ended_elsewhere k m lo hi h l i = omega (arith, ints, h, l, i.above, i.below)

pub by_inside : (k m lo hi a b : ℤ) → (m *ℤ pos OCTANT) ≤ℤ lo → lo <ℤ (m *ℤ pos OCTANT +ℤ pos OCTANT) → lo ≤ℤ hi
    → IsInside k lo hi
    → IsPart (octant_of_turn m) (unsigned_abs (lo -ℤ m *ℤ pos OCTANT)) (unsigned_abs (hi -ℤ m *ℤ pos OCTANT)) a b
    → IsPart (octant_of_turn k) (unsigned_abs (lo -ℤ k *ℤ pos OCTANT)) (unsigned_abs (hi -ℤ k *ℤ pos OCTANT)) a b
by_inside k m lo hi a b h l o i p = let e : k ≡ m = omega (arith, ints, h, l, o, i.above, i.below) in rw e p

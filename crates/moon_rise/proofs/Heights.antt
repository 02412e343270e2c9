-- How wide an observed altitude is at the scale 2^-56, and that the test whether it is above 0 is close. A sine that is
-- 2^-30 wide lies within 9/16 of 0, where its arcsine is narrow, or beyond 1/2 on one side, where it may be wide; there
-- the altitude is so great that neither parallax nor refraction bring it to 0.
use Rattle.std.specs.Prelude.{◌≡◌, ℕ, ◌+◌, ◌*◌, ◌/◌, ◌^◌, Bool, true, false, not, cond, ℤ, pos, neg_ℤ, ◌≤ℤ◌, Some, None}
use Rattle.std.specs.Prelude.{Option, Result, Ok, Err, IfErr, IfSome, refl, if◌then◌else◌, ◌==◌}
use Rattle.std.specs.Option.{option_map_or}
use Rattle.std.specs.List.{list_all}
use Rattle.std.proofs.Common.{arith, ◌⊎◌, inl, inr}
use Rattle.std.proofs.lemmas.Int.{ints}
use Rattle.book_model.specs.Fraction.{Fraction, ◌≤F◌, plus, is_at_most}
use Rattle.book_model.specs.Interval.{Interval, everything, between}
use Rattle.book_model.proofs.Fractions.{le_refl, le_trans, le_total, plus_mono, at_most_true, at_most_false}
use Rattle.book_model.specs.declared.fact.Place.{Place}
use Rattle.book_model.specs.declared.fact.TheConstants.{PLACES}
use Rattle.book_model.specs.declared.fail.Fail.{Fail}
use Rattle.book_model.specs.declared.fail.Fail.TheVariants.{Undecided as undecided_at, Void}
use Rattle.book_model.specs.declared.horizon.Location.{Location}
use Rattle.book_model.specs.declared.site.Site.{Site}
use Rattle.book_model.specs.numbers.Bounds.{Bound, unbounded, bounded, Reach, IsNarrow, at_32, breadth, implies}
use Rattle.book_model.specs.numbers.Bounds.{bound_of, limits_at, limits_of, integer_bound, constant_bound, sum_bound}
use Rattle.book_model.specs.numbers.Bounds.{difference_bound, scaled_bound, product_bound, power_bound, quotient_bound}
use Rattle.book_model.specs.numbers.Bounds.{clamp_bound, root_bound, spanned_bound, sine_spans, cosine_spans, arc_spans}
use Rattle.book_model.specs.numbers.Bounds.{arctangent_bound, half_tangent_bound, arcsine_bound}
use Rattle.book_model.specs.numbers.Expressions.{Expression, argument, integer, arcsine}
use Rattle.book_model.specs.numbers.Relations.{Narrow}
use Rattle.book_model.specs.numbers.Roots.{root_by_digits}
use Rattle.book_model.specs.programs.Programs.{compare_at, when}
use Rattle.book_model.specs.programs.Widths.{IsWithin, IsAbout, IsClose}
use Rattle.book_model.specs.sky.Altitude.{altitude_sine_of, north_of, towards_of, east_of}
use Rattle.book_model.specs.sky.Names.{place_number, location_of}
use Rattle.book_model.proofs.NameLemmas.{column_passes, place_row}
use Rattle.encl_core.specs.Steps.{IsUndecidedLess}
use Rattle.encl_core.proofs.Measuring.{measured, sloped, looser}
use Rattle.rise_set.specs.Altitudes.{IsTilt}
use Rattle.rise_set.specs.Widths.{IsDepression, IsNarrowLocation}
use Rattle.rise_set.proofs.Places.{place_is_narrow}
use Rattle.moon_rise.specs.Computed.{computed_parallax_of, computed_lifted_of}
use Rattle.book_model.specs.sky.Moonrise.{sky_sine_of}
use Rattle.moon_rise.specs.Widths.{IsSiderealTime, IsMoonLongitude, IsMoonLatitude, IsMoonDistance, IsSkySine}
use Rattle.moon_rise.specs.Widths.{IsAltitude, level, above, below, IsHeight, near, high, low, sky_bounds}
use Rattle.moon_rise.specs.Widths.{is_sky_location, IsSkyLocation}

-- ---- the sine of an altitude
skies_kept : list_all (λ row. option_map_or is_sky_location row.2.0 true) PLACES ≡ true
unfolding implies bound_of constant_bound sum_bound difference_bound product_bound spanned_bound sine_spans cosine_spans
    sky_sine_of altitude_sine_of north_of
    towards_of east_of
skies_kept = refl

sky_kept : (place : Place) → option_map_or is_sky_location (location_of place) true ≡ true
unfolding location_of
sky_kept place =
    column_passes (λ row. row.2.0) None (λ row. place_number row.0) (λ l. option_map_or is_sky_location l true) PLACES
    (place_number place)
    (place_number place) skies_kept (place_row place)

sky_if : (o : Option Location) → option_map_or is_sky_location o true ≡ true → IfSome o IsNarrowLocation
    → IfSome o IsSkyLocation
sky_if None e h = tt
sky_if (Some l) e h = record { narrow = h; sine = e }

-- at the location of each place that has one the sky is measured
pub place_is_sky : (place : Place) → IfSome (location_of place) IsSkyLocation
place_is_sky place = sky_if (location_of place) (sky_kept place) (place_is_narrow place)

pub sky_within : {E : Type 0} (shown : E → Interval) (n : ℕ) (p : Location) (t o l b y : E) → n ≡ 56 → IsSkyLocation p
    → IsSiderealTime (shown t)
    → IsTilt (shown o) → IsMoonLongitude (shown l) → IsMoonLatitude (shown b)
    → ((r : Reach) (x z u v : Expression) → Narrow shown (limits_of n) r x t → Narrow shown (limits_of n) r z o
    → Narrow shown (limits_of n) r u l
    → Narrow shown (limits_of n) r v b → Narrow shown (limits_of n) r (sky_sine_of p x z u v) y) → IsSkySine (shown y)
sky_within shown n p t o l b y e k h i j m f =
    measured shown n 0 sky_bounds (sky_sine_of p (argument 0) (argument 1) (argument 2) (argument 3)) _ _ 0 (2 ^ 34)
    (2 ^ 34) y e k.sine (omega arith)
    (f (record { width = 0; bounds = sky_bounds }) (argument 0) (argument 1) (argument 2) (argument 3)
    (sloped shown (limits_of n) 0 (362 * 2 ^ 16 + 2 ^ 37) sky_bounds 0 (neg_ℤ (pos (2 ^ 61))) (pos (2 ^ 61)) 0
    (362 * 2 ^ 16 + 2 ^ 37) t refl (omega arith) h)
    (sloped shown (limits_of n) 0 (2 ^ 13) sky_bounds 1 (pos (23 * 2 ^ 32)) (pos (24 * 2 ^ 32)) 0 (2 ^ 13) o refl
    (omega arith) i)
    (sloped shown (limits_of n) 0 (20 * 2 ^ 16 + 2 ^ 36) sky_bounds 2 (pos 0) (pos (360 * 2 ^ 32)) 0
    (20 * 2 ^ 16 + 2 ^ 36) l refl (omega arith) j)
    (sloped shown (limits_of n) 0 (4 * 2 ^ 16 + 2 ^ 36) sky_bounds 3 (neg_ℤ (pos (7 * 2 ^ 32))) (pos (7 * 2 ^ 32)) 0
    (4 * 2 ^ 16 + 2 ^ 36) b refl (omega arith)
    m))

-- ---- the three cases of a sine
data IsOneOf (i : Interval) : Type 0 where
  middle : IsAbout (9 * 2 ^ 28) (2 ^ 34) i → IsOneOf i
  greater : IsWithin (pos (2 ^ 31)) (pos (2 ^ 34)) (2 ^ 34) i → IsOneOf i
  less : IsWithin (neg_ℤ (pos (2 ^ 34))) (neg_ℤ (pos (2 ^ 31))) (2 ^ 34) i → IsOneOf i

little_lower : (a : Fraction) → at_32 (neg_ℤ (pos (2 ^ 31))) ≤F plus a (breadth 0 0 (2 ^ 34))
    → at_32 (neg_ℤ (pos (9 * 2 ^ 28))) ≤F a
unfolding plus
little_lower a h = record { cross = omega (arith, ints, h.cross) }

little_higher : plus (at_32 (pos (2 ^ 31))) (breadth 0 0 (2 ^ 34)) ≤F at_32 (pos (9 * 2 ^ 28))
unfolding plus
little_higher = record { cross = omega (arith, ints) }

-- of one whose lower bound is at most 1/2
not_greater : (a b : Fraction) → IsSkySine (between a b) → a ≤F at_32 (pos (2 ^ 31))
    → ((b ≤F at_32 (neg_ℤ (pos (2 ^ 31)))) ⊎ (at_32 (neg_ℤ (pos (2 ^ 31))) ≤F b)) → IsOneOf (between a b)
unfolding IsNarrow
not_greater a b h l (inl u) = less (record {
  kept = record { ordered = h.kept.ordered; above = h.kept.above; below = u; close = h.kept.close };
})
not_greater a b h l (inr u) = middle (record {
  kept = record {
    ordered = h.kept.ordered;
    above = little_lower a (le_trans _ _ _ u h.kept.close);
    below = le_trans _ _ _ h.kept.close (le_trans _ _ _ (plus_mono _ _ _ _ l (le_refl _)) little_higher);
    close = h.kept.close;
  };
})

by_endpoints : (a b : Fraction) → IsSkySine (between a b) → ((at_32 (pos (2 ^ 31)) ≤F a) ⊎ (a ≤F at_32 (pos (2 ^ 31))))
    → IsOneOf (between a b)
unfolding IsNarrow
by_endpoints a b h (inl l) = greater (record {
  kept = record { ordered = h.kept.ordered; above = l; below = h.kept.below; close = h.kept.close };
})
by_endpoints a b h (inr l) = not_greater a b h l (le_total b (at_32 (neg_ℤ (pos (2 ^ 31)))))

cases : (i : Interval) → IsSkySine i → IsOneOf i
unfolding IsNarrow
cases everything h = absurd h.kept
cases (between a b) h = by_endpoints a b h (le_total (at_32 (pos (2 ^ 31))) a)

-- ---- the altitude
abbrev middle_bounds : ℕ → Bound
middle_bounds k = bounded (neg_ℤ (pos (9 * 2 ^ 28))) (pos (9 * 2 ^ 28)) 0 (2 ^ 34)

abbrev greater_bounds : ℕ → Bound
greater_bounds k = bounded (pos (2 ^ 31)) (pos (2 ^ 34)) 0 (2 ^ 34)

abbrev less_bounds : ℕ → Bound
less_bounds k = bounded (neg_ℤ (pos (2 ^ 34))) (neg_ℤ (pos (2 ^ 31))) 0 (2 ^ 34)

level_reach : implies (bound_of (limits_at 56) middle_bounds (arcsine (argument 0)))
    (bounded (neg_ℤ (pos (36 * 2 ^ 32))) (pos (36 * 2 ^ 32)) 0 (5 * 2 ^ 38))
    ≡ true
unfolding implies bound_of integer_bound sum_bound difference_bound scaled_bound power_bound quotient_bound clamp_bound
    root_bound root_by_digits spanned_bound
    arc_spans arctangent_bound half_tangent_bound arcsine_bound
level_reach = refl

above_reach : implies (bound_of (limits_at 56) greater_bounds (arcsine (argument 0)))
    (bounded (pos (6 * 2 ^ 32)) (pos (91 * 2 ^ 32)) 0 (2 ^ 71)) ≡ true
unfolding implies bound_of integer_bound sum_bound difference_bound scaled_bound power_bound quotient_bound clamp_bound
    root_bound root_by_digits spanned_bound
    arc_spans arctangent_bound half_tangent_bound arcsine_bound
above_reach = refl

below_reach : implies (bound_of (limits_at 56) less_bounds (arcsine (argument 0)))
    (bounded (neg_ℤ (pos (91 * 2 ^ 32))) (neg_ℤ (pos (6 * 2 ^ 32))) 0 (2 ^ 71)) ≡ true
unfolding implies bound_of integer_bound sum_bound difference_bound scaled_bound power_bound quotient_bound clamp_bound
    root_bound root_by_digits spanned_bound
    arc_spans arctangent_bound half_tangent_bound arcsine_bound
below_reach = refl

module _ {E : Type 0} (shown : E → Interval) (n : ℕ) (s a : E) (e : n ≡ 56)
    (f : (r : Reach) (x : Expression) → Narrow shown (limits_of n) r x s → Narrow shown (limits_of n) r (arcsine x) a)
  where
    by_case : IsOneOf (shown s) → IsAltitude (shown a)
    by_case (middle h) =
        level (measured shown n 0 middle_bounds (arcsine (argument 0)) _ _ 0 (5 * 2 ^ 38) (5 * 2 ^ 38) a e level_reach
        (omega arith)
        (f (record { width = 0; bounds = middle_bounds }) (argument 0)
        (sloped shown (limits_of n) 0 (2 ^ 34) middle_bounds 0 (neg_ℤ (pos (9 * 2 ^ 28))) (pos (9 * 2 ^ 28)) 0
        (2 ^ 34) s
        refl (omega arith) h)))
    by_case (greater h) =
        above (measured shown n 0 greater_bounds (arcsine (argument 0)) _ _ 0 (2 ^ 71) (2 ^ 71) a e above_reach
        (omega arith)
        (f (record { width = 0; bounds = greater_bounds }) (argument 0)
        (sloped shown (limits_of n) 0 (2 ^ 34) greater_bounds 0 (pos (2 ^ 31)) (pos (2 ^ 34)) 0 (2 ^ 34) s refl
        (omega arith) h)))
    by_case (less h) =
        below (measured shown n 0 less_bounds (arcsine (argument 0)) _ _ 0 (2 ^ 71) (2 ^ 71) a e below_reach
        (omega arith)
        (f (record { width = 0; bounds = less_bounds }) (argument 0)
        (sloped shown (limits_of n) 0 (2 ^ 34) less_bounds 0 (neg_ℤ (pos (2 ^ 34))) (neg_ℤ (pos (2 ^ 31))) 0 (2 ^ 34) s
        refl (omega arith) h)))

    pub altitude_within : IsSkySine (shown s) → IsAltitude (shown a)
    altitude_within h = by_case (cases (shown s) h)

-- ---- the observed altitude, of an altitude, a distance and a depression
abbrev with_altitude : Bound → ℕ → Bound
with_altitude a k =
    if k == 0 then a
    else (if k == 1 then bounded (pos (355000 * 2 ^ 32)) (pos (415000 * 2 ^ 32)) 0 (16384 * 2 ^ 16 + 2 ^ 42)
    else bounded (pos 0) (pos (46 * 2 ^ 32 / 10)) 0 (2 ^ 24))

abbrev level_bounds : ℕ → Bound
level_bounds = with_altitude (bounded (neg_ℤ (pos (36 * 2 ^ 32))) (pos (36 * 2 ^ 32)) 0 (5 * 2 ^ 38))

abbrev above_bounds : ℕ → Bound
above_bounds = with_altitude (bounded (pos (6 * 2 ^ 32)) (pos (91 * 2 ^ 32)) 0 (2 ^ 71))

abbrev below_bounds : ℕ → Bound
below_bounds = with_altitude (bounded (neg_ℤ (pos (91 * 2 ^ 32))) (neg_ℤ (pos (6 * 2 ^ 32))) 0 (2 ^ 71))

near_reach : implies (bound_of (limits_at 56) level_bounds (computed_lifted_of (argument 0) (argument 1) (argument 2)))
    (bounded (neg_ℤ (pos (41 * 2 ^ 32))) (pos (41 * 2 ^ 32)) 0 (2 ^ 41)) ≡ true
unfolding implies bound_of integer_bound sum_bound difference_bound scaled_bound power_bound quotient_bound clamp_bound
    root_bound root_by_digits spanned_bound
    cosine_spans arc_spans arctangent_bound half_tangent_bound arcsine_bound computed_parallax_of computed_lifted_of
near_reach = refl

high_reach : implies (bound_of (limits_at 56) above_bounds (computed_lifted_of (argument 0) (argument 1) (argument 2)))
    (bounded (pos (4 * 2 ^ 32)) (pos (100 * 2 ^ 32)) 0 (2 ^ 72)) ≡ true
unfolding implies bound_of integer_bound sum_bound difference_bound scaled_bound power_bound quotient_bound clamp_bound
    root_bound root_by_digits spanned_bound
    cosine_spans arc_spans arctangent_bound half_tangent_bound arcsine_bound computed_parallax_of computed_lifted_of
high_reach = refl

low_reach : implies (bound_of (limits_at 56) below_bounds (computed_lifted_of (argument 0) (argument 1) (argument 2)))
    (bounded (neg_ℤ (pos (100 * 2 ^ 32))) (neg_ℤ (pos (2 ^ 30))) 0 (2 ^ 72)) ≡ true
unfolding implies bound_of integer_bound sum_bound difference_bound scaled_bound power_bound quotient_bound clamp_bound
    root_bound root_by_digits spanned_bound
    cosine_spans arc_spans arctangent_bound half_tangent_bound arcsine_bound computed_parallax_of computed_lifted_of
low_reach = refl

module _ {E : Type 0} (shown : E → Interval) (n : ℕ) (a d p y : E) (e : n ≡ 56) (far : IsMoonDistance (shown d))
    (lowered : IsDepression (shown p))
    (f : (r : Reach) (x z u : Expression) → Narrow shown (limits_of n) r x a → Narrow shown (limits_of n) r z d
    → Narrow shown (limits_of n) r u p
    → Narrow shown (limits_of n) r (computed_lifted_of x z u) y) where
  -- the distance and the depression, whatever the altitude
  distance_of_bounds : (b : Bound) → Narrow shown (limits_of n) (record { width = 0; bounds = with_altitude b })
      (argument 1) d
  distance_of_bounds b = sloped shown (limits_of n) 0 (16384 * 2 ^ 16 + 2 ^ 42) (with_altitude b) 1
      (pos (355000 * 2 ^ 32)) (pos (415000 * 2 ^ 32)) 0
      (16384 * 2 ^ 16 + 2 ^ 42) d refl (omega arith) far

  depression_of_bounds : (b : Bound) → Narrow shown (limits_of n) (record { width = 0; bounds = with_altitude b })
      (argument 2) p
  depression_of_bounds b = sloped shown (limits_of n) 0 (2 ^ 24) (with_altitude b) 2 (pos 0) (pos (46 * 2 ^ 32 / 10)) 0
      (2 ^ 24) p refl (omega arith) lowered

  pub height_within : IsAltitude (shown a) → IsHeight (shown y)
  height_within (level h) =
      near (measured shown n 0 level_bounds (computed_lifted_of (argument 0) (argument 1) (argument 2)) _ _ 0 (2 ^ 41)
      (2 ^ 41) y e near_reach (omega arith)
      (f (record { width = 0; bounds = level_bounds }) (argument 0) (argument 1) (argument 2)
      (sloped shown (limits_of n) 0 (5 * 2 ^ 38) level_bounds 0 (neg_ℤ (pos (36 * 2 ^ 32))) (pos (36 * 2 ^ 32)) 0
      (5 * 2 ^ 38) a refl (omega arith) h)
      (distance_of_bounds _) (depression_of_bounds _)))
  height_within (above h) =
      high (measured shown n 0 above_bounds (computed_lifted_of (argument 0) (argument 1) (argument 2)) _ _ 0 (2 ^ 72)
      (2 ^ 72) y e high_reach (omega arith)
      (f (record { width = 0; bounds = above_bounds }) (argument 0) (argument 1) (argument 2)
      (sloped shown (limits_of n) 0 (2 ^ 71) above_bounds 0 (pos (6 * 2 ^ 32)) (pos (91 * 2 ^ 32)) 0 (2 ^ 71) a refl
      (omega arith) h)
      (distance_of_bounds _) (depression_of_bounds _)))
  height_within (below h) =
      low (measured shown n 0 below_bounds (computed_lifted_of (argument 0) (argument 1) (argument 2)) _ _ 0 (2 ^ 72)
      (2 ^ 72) y e low_reach (omega arith)
      (f (record { width = 0; bounds = below_bounds }) (argument 0) (argument 1) (argument 2)
      (sloped shown (limits_of n) 0 (2 ^ 71) below_bounds 0 (neg_ℤ (pos (91 * 2 ^ 32))) (neg_ℤ (pos (6 * 2 ^ 32))) 0
      (2 ^ 71) a refl (omega arith) h)
      (distance_of_bounds _) (depression_of_bounds _)))

-- ---- whether it is above 0
zero_reach : implies (bound_of (limits_at 56) (λ k. unbounded) (integer (pos 0))) (bounded (pos 0) (pos 0) 0 0) ≡ true
unfolding implies bound_of integer_bound
zero_reach = refl

pub zero_within : {E : Type 0} (shown : E → Interval) (n : ℕ) (y : E) → n ≡ 56
    → ((r : Reach) → Narrow shown (limits_of n) r (integer (pos 0)) y)
    → IsWithin (pos 0) (pos 0) 0 (shown y)
zero_within shown n y e f = measured shown n 0 (λ k. unbounded) (integer (pos 0)) _ _ 0 0 0 y e zero_reach (omega arith)
    (f (record { width = 0; bounds = λ k. unbounded }))

pub zero_about : (i : Interval) → IsWithin (pos 0) (pos 0) 0 i → IsAbout (2 ^ 90) 0 i
zero_about i h = looser _ _ _ _ 0 0 i (omega (arith, ints)) (omega (arith, ints)) (omega arith) h

near_about : (i : Interval) → IsAbout (41 * 2 ^ 32) (2 ^ 41) i → IsAbout (2 ^ 90) (2 ^ 41) i
near_about i h = looser _ _ _ _ (2 ^ 41) (2 ^ 41) i (omega (arith, ints)) (omega (arith, ints)) (omega arith) h

apart : (x y : ℤ) → y ≤ℤ x → at_32 x ≤F at_32 y → x ≤ℤ y
apart x y h k = omega (arith, ints, k.cross)

far_above : (i j : Interval) → IsWithin (pos 0) (pos 0) 0 i → IsWithin (pos (4 * 2 ^ 32)) (pos (100 * 2 ^ 32)) (2 ^ 72)
    j → compare_at i j ≡ None → ⊥
unfolding compare_at IsNarrow
far_above everything j h k o = absurd h.kept
far_above (between a b) everything h k o = absurd k.kept
far_above (between a b) (between c d) h k o = by_test (is_at_most c b) refl o
  where
    by_test : (t : Bool) → is_at_most c b ≡ t → cond (not t) (Some true) (when (is_at_most d a) false) ≡ None → ⊥
    by_test false p o = absurd (cc)
    by_test true p o =
        let z = apart (pos (4 * 2 ^ 32)) (pos 0) (omega (arith, ints))
        (le_trans _ _ _ k.kept.above (le_trans _ _ _ (at_most_true c b p) h.kept.below)) in
        absurd (omega (arith, ints, z))

far_below : (i j : Interval) → IsWithin (pos 0) (pos 0) 0 i → IsWithin (neg_ℤ (pos (100 * 2 ^ 32)))
    (neg_ℤ (pos (2 ^ 30))) (2 ^ 72) j → compare_at i j ≡ None → ⊥
unfolding compare_at IsNarrow
far_below everything j h k o = absurd h.kept
far_below (between a b) everything h k o = absurd k.kept
far_below (between a b) (between c d) h k o = by_test (is_at_most c b) (is_at_most d a) refl o
  where
    by_test : (t u : Bool) → is_at_most d a ≡ u → cond (not t) (Some true) (when u false) ≡ None → ⊥
    by_test false u p o = absurd (cc)
    by_test true true p o = absurd (cc)
    by_test true false p o =
        let z = apart (pos 0) (neg_ℤ (pos (2 ^ 30))) (omega (arith, ints))
        (le_trans _ _ _ h.kept.above (le_trans _ _ _ (at_most_false d a p) k.kept.below)) in
        absurd (omega (arith, ints, z))

pub up_closes : (s : Site) (i j : Interval) (r : Result Bool Fail) → IsWithin (pos 0) (pos 0) 0 i → IsHeight j
    → (IsAbout (2 ^ 90) (2 ^ 41) j → IfErr r IsClose)
    → IfErr r (IsUndecidedLess i j s) → IfErr r IsClose
up_closes s i j (Ok t) z h k o = tt
up_closes s i j (Err (Void v)) z h k o = absurd o
up_closes s i j (Err (undecided_at u)) z (near n) k o = k (near_about j n)
up_closes s i j (Err (undecided_at u)) z (high n) k o = absurd (far_above i j z n o.0.open_there)
up_closes s i j (Err (undecided_at u)) z (low n) k o = absurd (far_below i j z n o.0.open_there)

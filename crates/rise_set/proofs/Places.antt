-- The places are narrow, and so are their depressions and sunsets. That each place with a horizon lies within the
-- latitudes and heights for which widths are computed is a test over the rows of the table, by computing. The bound of
-- a depression is computed of such a height, and of constants alone.
use Rattle.std.specs.Prelude.{◌≡◌, ℕ, ◌+◌, ◌*◌, ◌/◌, ◌^◌, true, pos, Option, Some, None, IfSome, refl}
use Rattle.std.specs.Option.{option_map_or}
use Rattle.std.proofs.Common.{arith}
use Rattle.std.proofs.lemmas.Int.{ints}
use Rattle.book_model.specs.Interval.{Interval}
use Rattle.book_model.specs.declared.fact.Place.{Place}
use Rattle.book_model.specs.declared.fact.Place.TheVariants.{Ujjain}
use Rattle.book_model.specs.declared.horizon.Location.{Location}
use Rattle.book_model.specs.declared.location_tables.TheConstants.{UJJAIN, HALF_SUN, HINDU_SUNRISE_DEPRESSION}
use Rattle.book_model.specs.numbers.Bounds.{Bound, unbounded, bounded, Reach, implies, bound_of, limits_at, limits_of}
use Rattle.book_model.specs.numbers.Bounds.{integer_bound, constant_bound, sum_bound}
use Rattle.book_model.specs.numbers.Expressions.{Expression, argument, constant, integer, add}
use Rattle.book_model.specs.numbers.Fractions.{fraction_of}
use Rattle.book_model.specs.numbers.Relations.{Narrow}
use Rattle.book_model.specs.programs.Widths.{IsWithin, IsMoment}
use Rattle.book_model.specs.sky.Horizon.{refraction_of}
use Rattle.book_model.specs.sky.Names.{location_of}
use Rattle.book_model.specs.sky.Places.{is_kept_location}
use Rattle.book_model.proofs.CorrectionRows.{both}
use Rattle.book_model.proofs.Places.{location_kept}
use Rattle.encl_core.proofs.Measuring.{measured, looser, sloped}
use Rattle.rise_set.specs.Widths.{IsDepression, IsNarrowLocation}

-- ---- places
narrow_if : (o : Option Location) → option_map_or is_kept_location o true ≡ true → IfSome o IsNarrowLocation
narrow_if None e = tt
narrow_if (Some l) e =
    let a = both _ _ e in
    let b = both _ _ a.1 in
    let c = both _ _ b.1 in
    record { place = record { narrow = a.0 }; latitude = b.0; refraction = c.0 }

-- the location of a place, if it has one, is narrow
pub place_is_narrow : (place : Place) → IfSome (location_of place) IsNarrowLocation
place_is_narrow place = narrow_if (location_of place) (location_kept place)

pub ujjain_is_narrow : IsNarrowLocation UJJAIN
unfolding location_of
ujjain_is_narrow = place_is_narrow Ujjain

-- ---- depressions
pub refraction_within : {E : Type 0} (shown : E → Interval) (n : ℕ) (p : Location) (x : E) → n ≡ 56 → IsNarrowLocation p
    → ((r : Reach) → Narrow shown (limits_of n) r (refraction_of p) x) → IsWithin (pos 0) (pos (4 * 2 ^ 32)) (2 ^ 23)
    (shown x)
refraction_within shown n p x e h f = measured shown n 0 (λ k. unbounded) (refraction_of p) _ _ 0 (2 ^ 23) (2 ^ 23) x e
    h.refraction (omega arith)
    (f (record { width = 0; bounds = λ k. unbounded }))

abbrev refraction_bounds : ℕ → Bound
refraction_bounds k = bounded (pos 0) (pos (4 * 2 ^ 32)) 0 (2 ^ 23)

sunset_reach : implies (bound_of (limits_at 56) refraction_bounds (add (argument 0) (constant (fraction_of HALF_SUN))))
    (bounded (pos 0) (pos (46 * 2 ^ 32 / 10)) 0 (2 ^ 24)) ≡ true
unfolding implies bound_of constant_bound sum_bound
sunset_reach = refl

pub sunset_within : {E : Type 0} (shown : E → Interval) (n : ℕ) (x h y : E) → n ≡ 56
    → IsWithin (pos 0) (pos (4 * 2 ^ 32)) (2 ^ 23) (shown x)
    → ((r : Reach) → Narrow shown (limits_of n) r (constant (fraction_of HALF_SUN)) h)
    → ((r : Reach) (p q : Expression) → Narrow shown (limits_of n) r p x → Narrow shown (limits_of n) r q h
    → Narrow shown (limits_of n) r (add p q) y)
    → IsDepression (shown y)
sunset_within shown n x h y e k f g =
    let r : Reach = record { width = 0; bounds = refraction_bounds } in
    measured shown n 0 refraction_bounds (add (argument 0) (constant (fraction_of HALF_SUN))) _ _ 0 (2 ^ 24) (2 ^ 24) y
    e sunset_reach (omega arith)
    (g r (argument 0) _ (sloped shown (limits_of n) 0 (2 ^ 23) refraction_bounds 0 (pos 0) (pos (4 * 2 ^ 32)) 0 (2 ^ 23)
    x refl (omega arith) k) (f r))

level_reach : implies (bound_of (limits_at 56) (λ k. unbounded) (integer (pos 0)))
    (bounded (pos 0) (pos (46 * 2 ^ 32 / 10)) 0 (2 ^ 24)) ≡ true
unfolding implies bound_of integer_bound
level_reach = refl

pub level_within : {E : Type 0} (shown : E → Interval) (n : ℕ) (x : E) → n ≡ 56
    → ((r : Reach) → Narrow shown (limits_of n) r (integer (pos 0)) x)
    → IsDepression (shown x)
level_within shown n x e f = measured shown n 0 (λ k. unbounded) (integer (pos 0)) _ _ 0 (2 ^ 24) (2 ^ 24) x e
    level_reach (omega arith)
    (f (record { width = 0; bounds = λ k. unbounded }))

sunrise_reach : implies (bound_of (limits_at 56) (λ k. unbounded) (constant (fraction_of HINDU_SUNRISE_DEPRESSION)))
    (bounded (pos 0) (pos (46 * 2 ^ 32 / 10)) 0 (2 ^ 24)) ≡ true
unfolding implies bound_of constant_bound
sunrise_reach = refl

pub sunrise_within : {E : Type 0} (shown : E → Interval) (n : ℕ) (x : E) → n ≡ 56
    → ((r : Reach) → Narrow shown (limits_of n) r (constant (fraction_of HINDU_SUNRISE_DEPRESSION)) x)
    → IsDepression (shown x)
sunrise_within shown n x e f = measured shown n 0 (λ k. unbounded) (constant (fraction_of HINDU_SUNRISE_DEPRESSION)) _ _
    0 (2 ^ 24) (2 ^ 24) x e sunrise_reach
    (omega arith) (f (record { width = 0; bounds = λ k. unbounded }))

-- ---- universal time
pub setting_within : (i : Interval) → IsMoment (17 * 2 ^ 28 + 2 ^ 10) i → IsMoment (9 * 2 ^ 29) i
setting_within i h = looser _ _ _ _ (17 * 2 ^ 28 + 2 ^ 10) (9 * 2 ^ 29) i (omega (arith, ints)) (omega (arith, ints))
    (omega arith) h

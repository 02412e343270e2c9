-- How wide a sunset in minutes is at the scale 2^-56, and that the places of the facts are narrow. The places are a
-- table that is checked as a whole (rise_set); the minutes are computed with bounds in place of their arguments, once,
-- and `measured` leads to the width of any enclosure.
use Rattle.std.specs.Prelude.{◌≡◌, ℕ, ◌+◌, ◌*◌, ◌^◌, true, pos, neg_ℤ, Option, Some, None, IfSome, refl, if◌then◌else◌}
use Rattle.std.specs.Prelude.{◌==◌}
use Rattle.std.proofs.Common.{arith}
use Rattle.book_model.specs.Interval.{Interval}
use Rattle.book_model.specs.declared.fact.Place.{Place}
use Rattle.book_model.specs.declared.fact.Place.TheVariants.{Tehran}
use Rattle.book_model.specs.declared.frac.Frac.{Frac}
use Rattle.book_model.specs.declared.horizon.Location.{Location}
use Rattle.book_model.specs.declared.location_tables.TheConstants.{TEHRAN, MINUTES_OF_DAY}
use Rattle.book_model.specs.declared.tables.TheConstants.{HALF}
use Rattle.book_model.specs.declared.time_tables.TheConstants.{HOUR}
use Rattle.book_model.specs.numbers.Bounds.{Bound, bounded, Reach, implies, bound_of, limits_at, limits_of}
use Rattle.book_model.specs.numbers.Bounds.{constant_bound, sum_bound, difference_bound, scaled_bound}
use Rattle.book_model.specs.numbers.Expressions.{Expression, argument, constant, add, subtract, scale}
use Rattle.book_model.specs.numbers.Fractions.{fraction_of}
use Rattle.book_model.specs.numbers.Relations.{Narrow}
use Rattle.book_model.specs.programs.Widths.{IsAbout, IsMoment}
use Rattle.book_model.specs.sky.Names.{location_of}
use Rattle.book_model.specs.sky.Places.{are_kept_hours}
use Rattle.encl_core.proofs.Measuring.{measured, sloped}
use Rattle.time_scales.proofs.ZoneWidths.{hours_within}
use Rattle.crescent.specs.SkyWidths.{IsNarrowLocation}
use Rattle.crescent.proofs.Places.{place_is_narrow}

-- the location of a place is narrow
pub found_is_narrow : (place : Place) (l : Location) → Some l ≡ location_of place → IsNarrowLocation l
found_is_narrow place l e = by (location_of place) e (place_is_narrow place)
  where
    by : (o : Option Location) → Some l ≡ o → IfSome o IsNarrowLocation → IsNarrowLocation l
    by None f k = absurd (cc)
    by (Some m) f k = let q : l ≡ m = cc in rw q k

pub tehran_is_narrow : IsNarrowLocation TEHRAN
unfolding location_of
tehran_is_narrow = place_is_narrow Tehran

-- ---- minutes
abbrev clock_bounds : ℕ → Bound
clock_bounds k = if k == 1 then bounded (pos 0) (pos (24 * 2 ^ 32)) 0 (2 ^ 8) else
    (if k == 2 then bounded (neg_ℤ (pos (2 ^ 58))) (pos (2 ^ 58)) 0 0 else bounded (neg_ℤ (pos (2 ^ 58))) (pos (2 ^ 58))
    (2 ^ 40) 0)

minutes_reach : implies (bound_of (limits_at 56) clock_bounds
    (scale (fraction_of MINUTES_OF_DAY) (subtract (add (argument 0) (scale (fraction_of HOUR) (argument 1)))
    (argument 2))))
    (bounded (neg_ℤ (pos (2 ^ 89))) (pos (2 ^ 89)) (1440 * 2 ^ 40) (2 ^ 22)) ≡ true
unfolding implies bound_of sum_bound difference_bound scaled_bound
minutes_reach = refl

pub minutes_within : {E : Type 0} (shown : E → Interval) (n v : ℕ) (hours : Frac) (t z h a d s m : E) → n ≡ 56
    → are_kept_hours 24 hours ≡ true
    → IsMoment v (shown t) → IsMoment 0 (shown d)
    → ((r : Reach) → Narrow shown (limits_of n) r (constant (fraction_of hours)) z)
    → ((r : Reach) (x : Expression) → Narrow shown (limits_of n) r x z
    → Narrow shown (limits_of n) r (scale (fraction_of HOUR) x) h)
    → ((r : Reach) (x y : Expression) → Narrow shown (limits_of n) r x t → Narrow shown (limits_of n) r y h
    → Narrow shown (limits_of n) r (add x y) a)
    → ((r : Reach) (x y : Expression) → Narrow shown (limits_of n) r x a → Narrow shown (limits_of n) r y d
    → Narrow shown (limits_of n) r (subtract x y) s)
    → ((r : Reach) (x : Expression) → Narrow shown (limits_of n) r x s
    → Narrow shown (limits_of n) r (scale (fraction_of MINUTES_OF_DAY) x) m)
    → IsAbout (2 ^ 89) (1440 * v + 2 ^ 22) (shown m)
minutes_within shown n v hours t z h a d s m e k i j f1 f2 f3 f4 f5 =
    let r : Reach = record { width = v; bounds = clock_bounds } in
    let o = hours_within shown n 24 hours z e k f1 in
    measured shown n v clock_bounds
    (scale (fraction_of MINUTES_OF_DAY) (subtract (add (argument 0) (scale (fraction_of HOUR) (argument 1)))
    (argument 2))) _ _
    (1440 * 2 ^ 40) (2 ^ 22) (1440 * v + 2 ^ 22) m e minutes_reach (omega arith)
    (f5 r _ (f4 r _ _ (f3 r _ _
    (sloped shown (limits_of n) v v clock_bounds 0 (neg_ℤ (pos (2 ^ 58))) (pos (2 ^ 58)) (2 ^ 40) 0 t refl
    (omega arith) i)
    (f2 r _ (sloped shown (limits_of n) v (2 ^ 8) clock_bounds 1 (pos 0) (pos (24 * 2 ^ 32)) 0 (2 ^ 8) z refl
    (omega arith) o)))
    (sloped shown (limits_of n) v 0 clock_bounds 2 (neg_ℤ (pos (2 ^ 58))) (pos (2 ^ 58)) 0 0 d refl (omega arith) j)))

-- and a half
abbrev minute_bounds : ℕ → Bound
minute_bounds k = bounded (neg_ℤ (pos (2 ^ 89))) (pos (2 ^ 89)) (2 ^ 40) 0

half_reach : implies (bound_of (limits_at 56) minute_bounds (add (argument 0) (constant (fraction_of HALF))))
    (bounded (neg_ℤ (pos (2 ^ 90))) (pos (2 ^ 90)) (2 ^ 40) (2 ^ 9)) ≡ true
unfolding implies bound_of constant_bound sum_bound
half_reach = refl

pub rounded_within : {E : Type 0} (shown : E → Interval) (n v : ℕ) (x c y : E) → n ≡ 56 → IsAbout (2 ^ 89) v (shown x)
    → ((r : Reach) → Narrow shown (limits_of n) r (constant (fraction_of HALF)) c)
    → ((r : Reach) (p q : Expression) → Narrow shown (limits_of n) r p x → Narrow shown (limits_of n) r q c
    → Narrow shown (limits_of n) r (add p q) y)
    → IsAbout (2 ^ 90) (v + 2 ^ 9) (shown y)
rounded_within shown n v x c y e h f g =
    let r : Reach = record { width = v; bounds = minute_bounds } in
    measured shown n v minute_bounds (add (argument 0) (constant (fraction_of HALF))) _ _ (2 ^ 40) (2 ^ 9) (v + 2 ^ 9) y
    e half_reach (omega arith)
    (g r (argument 0) _ (sloped shown (limits_of n) v v minute_bounds 0 (neg_ℤ (pos (2 ^ 89))) (pos (2 ^ 89)) (2 ^ 40) 0
    x refl (omega arith) h) (f r))

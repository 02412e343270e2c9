-- How wide precession and the sun's longitude among the stars are at the scale 2^-56. The bounds of the three angles,
-- of the two sides of the direction and of the angle from these are computed one after another, each of bounds of its
-- own arguments (`.._reach`); `measured` leads to the enclosures. One side is at most -1/2, which keeps the arctangent
-- narrow.
use Rattle.std.specs.Prelude.{◌≡◌, ℕ, ◌+◌, ◌*◌, ◌/◌, ◌^◌, ◌≤◌, true, pos, neg_ℤ, refl, if◌then◌else◌, ◌==◌}
use Rattle.std.proofs.Common.{arith}
use Rattle.book_model.specs.Interval.{Interval}
use Rattle.book_model.specs.declared.sun_tables.TheConstants.{ECLIPTIC_TILT, ECLIPTIC_CROSSING, EQUINOX_ADVANCE}
use Rattle.book_model.specs.numbers.Bounds.{Bound, bounded, Reach, implies, bound_of, limits_at, limits_of}
use Rattle.book_model.specs.numbers.Bounds.{constant_bound, sum_bound, difference_bound, scaled_bound, product_bound}
use Rattle.book_model.specs.numbers.Bounds.{power_bound, spanned_bound, sine_spans, cosine_spans}
use Rattle.book_model.specs.numbers.Expressions.{Expression, argument, add, subtract, multiply, sine, cosine}
use Rattle.book_model.specs.numbers.Polynomials.{quadratic_of, cubic_of}
use Rattle.book_model.specs.numbers.Relations.{Narrow}
use Rattle.book_model.specs.programs.Widths.{IsWithin, IsAbout, IsUpTo, centuries_to, recent_centuries_from}
use Rattle.book_model.specs.sky.Sidereal.{sidereal_by}
use Rattle.time_scales.specs.Widths.{AreRecentCenturies}
use Rattle.encl_core.proofs.Measuring.{measured, measured_argument, sloped}
use Rattle.sun_core.specs.Widths.{IsTilt, IsCrossing, IsAdvance, advance_size, crossing_from}

-- ---- the three angles
abbrev recent_centuries : ℕ → Bound
recent_centuries k = bounded recent_centuries_from centuries_to (2 ^ 40) 0

tilt_reach : implies (bound_of (limits_at 56) recent_centuries (cubic_of ECLIPTIC_TILT (argument 0)))
    (bounded (neg_ℤ (pos (2 ^ 28))) (pos (2 ^ 28)) (2 ^ 41) (2 ^ 14)) ≡ true
unfolding implies bound_of constant_bound sum_bound scaled_bound product_bound power_bound cubic_of
tilt_reach = refl

crossing_reach : implies (bound_of (limits_at 56) recent_centuries (quadratic_of ECLIPTIC_CROSSING (argument 0)))
    (bounded crossing_from (pos (176 * 2 ^ 32)) (2 ^ 41) (2 ^ 14)) ≡ true
unfolding implies bound_of constant_bound sum_bound scaled_bound product_bound power_bound quadratic_of
crossing_reach = refl

advance_reach : implies (bound_of (limits_at 56) recent_centuries (cubic_of EQUINOX_ADVANCE (argument 0)))
    (bounded (neg_ℤ (pos advance_size)) (pos advance_size) (2 ^ 41) (2 ^ 14)) ≡ true
unfolding implies bound_of constant_bound sum_bound scaled_bound product_bound power_bound cubic_of
advance_reach = refl

module _ {E : Type 0} (shown : E → Interval) (n v : ℕ) (c x : E) (e : n ≡ 56) (h : AreRecentCenturies v (shown c)) where
  centuries_kept : Narrow shown (limits_of n) (record { width = v; bounds = recent_centuries }) (argument 0) c
  centuries_kept = measured_argument shown (limits_of n) _ _ v 0 c h

  pub tilt_within : ((r : Reach) (a : Expression) → Narrow shown (limits_of n) r a c
      → Narrow shown (limits_of n) r (cubic_of ECLIPTIC_TILT a) x)
      → IsTilt (2 * v + 2 ^ 14) (shown x)
  tilt_within f = measured shown n v recent_centuries (cubic_of ECLIPTIC_TILT (argument 0)) _ _ (2 ^ 41) (2 ^ 14)
      (2 * v + 2 ^ 14) x e tilt_reach (omega arith)
      (f (record { width = v; bounds = recent_centuries }) (argument 0) centuries_kept)

  pub crossing_within : ((r : Reach) (a : Expression) → Narrow shown (limits_of n) r a c
      → Narrow shown (limits_of n) r (quadratic_of ECLIPTIC_CROSSING a) x)
      → IsCrossing (2 * v + 2 ^ 14) (shown x)
  crossing_within f = measured shown n v recent_centuries (quadratic_of ECLIPTIC_CROSSING (argument 0)) _ _ (2 ^ 41)
      (2 ^ 14) (2 * v + 2 ^ 14) x e
      crossing_reach (omega arith) (f (record { width = v; bounds = recent_centuries }) (argument 0) centuries_kept)

  pub advance_within : ((r : Reach) (a : Expression) → Narrow shown (limits_of n) r a c
      → Narrow shown (limits_of n) r (cubic_of EQUINOX_ADVANCE a) x)
      → IsAdvance (2 * v + 2 ^ 14) (shown x)
  advance_within f = measured shown n v recent_centuries (cubic_of EQUINOX_ADVANCE (argument 0)) _ _ (2 ^ 41) (2 ^ 14)
      (2 * v + 2 ^ 14) x e advance_reach
      (omega arith) (f (record { width = v; bounds = recent_centuries }) (argument 0) centuries_kept)

-- ---- the direction in which the ecliptics part: the tilt, the crossing, the advance and the angle of the direction
abbrev angles : ℕ → Bound
angles k =
    if k == 0 then bounded (neg_ℤ (pos (2 ^ 28))) (pos (2 ^ 28)) (2 ^ 40) 0
    else (if k == 1 then bounded crossing_from (pos (176 * 2 ^ 32)) (2 ^ 40) 0
    else (if k == 2 then bounded (neg_ℤ (pos advance_size)) (pos advance_size) (2 ^ 40) 0
    else bounded (pos (90 * 2 ^ 32)) (pos (180 * 2 ^ 32)) (5 * 2 ^ 40) (2 ^ 23)))

up_reach : implies (bound_of (limits_at 56) angles (multiply (cosine (argument 0)) (sine (argument 1))))
    (bounded (pos (2 ^ 28)) (pos (2 * 2 ^ 32)) (22 * 2 ^ 30) (2 ^ 14)) ≡ true
unfolding implies bound_of product_bound spanned_bound sine_spans cosine_spans
up_reach = refl

along_reach : implies (bound_of (limits_at 56) angles (cosine (argument 1)))
    (bounded (neg_ℤ (pos (2 * 2 ^ 32))) (neg_ℤ (pos (2 ^ 31))) (22 * 2 ^ 30) (2 ^ 14))
    ≡ true
unfolding implies bound_of spanned_bound cosine_spans
along_reach = refl

precession_reach : implies (bound_of (limits_at 56) angles (subtract (add (argument 2) (argument 1)) (argument 3)))
    (bounded (neg_ℤ (pos (2 ^ 39))) (pos (2 ^ 39)) (7 * 2 ^ 40) (2 ^ 23)) ≡ true
unfolding implies bound_of sum_bound difference_bound
precession_reach = refl

-- how wide the two sides are
abbrev pub side : ℕ → ℕ
side v = 22 * v / 1024 + 2 ^ 14 + 1

module _ {E : Type 0} (shown : E → Interval) (n v : ℕ) (t p a : E) (e : n ≡ 56) (l : v ≤ 2 ^ 40)
    (ht : IsTilt v (shown t)) (hp : IsCrossing v (shown p))
    (ha : IsAdvance v (shown a)) where
  tilt_kept : Narrow shown (limits_of n) (record { width = v; bounds = angles }) (argument 0) t
  tilt_kept = sloped shown (limits_of n) v v angles 0 _ _ (2 ^ 40) 0 t refl (omega arith) ht

  crossing_kept : Narrow shown (limits_of n) (record { width = v; bounds = angles }) (argument 1) p
  crossing_kept = sloped shown (limits_of n) v v angles 1 _ _ (2 ^ 40) 0 p refl (omega arith) hp

  advance_kept : Narrow shown (limits_of n) (record { width = v; bounds = angles }) (argument 2) a
  advance_kept = sloped shown (limits_of n) v v angles 2 _ _ (2 ^ 40) 0 a refl (omega arith) ha

  pub up_within : (c s y : E) → ((r : Reach) (x : Expression) → Narrow shown (limits_of n) r x t
      → Narrow shown (limits_of n) r (cosine x) c)
      → ((r : Reach) (x : Expression) → Narrow shown (limits_of n) r x p → Narrow shown (limits_of n) r (sine x) s)
      → ((r : Reach) (x z : Expression) → Narrow shown (limits_of n) r x c → Narrow shown (limits_of n) r z s
      → Narrow shown (limits_of n) r (multiply x z) y)
      → IsWithin (pos (2 ^ 28)) (pos (2 * 2 ^ 32)) (side v) (shown y)
  up_within c s y f g h =
      let r : Reach = record { width = v; bounds = angles } in
      measured shown n v angles (multiply (cosine (argument 0)) (sine (argument 1))) _ _ (22 * 2 ^ 30) (2 ^ 14) (side v)
      y e up_reach (omega arith)
      (h r _ _ (f r _ tilt_kept) (g r _ crossing_kept))

  pub along_within : (x : E) → ((r : Reach) (z : Expression) → Narrow shown (limits_of n) r z p
      → Narrow shown (limits_of n) r (cosine z) x)
      → IsWithin (neg_ℤ (pos (2 * 2 ^ 32))) (neg_ℤ (pos (2 ^ 31))) (side v) (shown x)
  along_within x f = measured shown n v angles (cosine (argument 1)) _ _ (22 * 2 ^ 30) (2 ^ 14) (side v) x e along_reach
      (omega arith)
      (f (record { width = v; bounds = angles }) _ crossing_kept)

  pub precession_within : (d s x : E) → IsWithin (pos (90 * 2 ^ 32)) (pos (180 * 2 ^ 32)) (230 * side v + 2 ^ 20)
      (shown d)
      → ((r : Reach) (y z : Expression) → Narrow shown (limits_of n) r y a → Narrow shown (limits_of n) r z p
      → Narrow shown (limits_of n) r (add y z) s)
      → ((r : Reach) (y z : Expression) → Narrow shown (limits_of n) r y s → Narrow shown (limits_of n) r z d
      → Narrow shown (limits_of n) r (subtract y z) x)
      → IsAbout (2 ^ 39) (7 * v + 2 ^ 23) (shown x)
  precession_within d s x h f g =
      let r : Reach = record { width = v; bounds = angles } in
      measured shown n v angles (subtract (add (argument 2) (argument 1)) (argument 3)) _ _ (7 * 2 ^ 40) (2 ^ 23)
      (7 * v + 2 ^ 23) x e precession_reach
      (omega arith)
      (g r _ _ (f r _ _ advance_kept crossing_kept) (sloped shown (limits_of n) v (230 * side v + 2 ^ 20) angles 3 _ _
      (5 * 2 ^ 40) (2 ^ 23) d refl
      (omega arith) h))

-- ---- the sun among the stars
abbrev star_bounds : ℕ → Bound
star_bounds k = if k == 0 then bounded (pos 0) (pos (360 * 2 ^ 32)) (2 * 2 ^ 40) (2 ^ 32)
    else bounded (neg_ℤ (pos (2 ^ 39))) (pos (2 ^ 39)) (2 ^ 40 / 1000 + 1)
    (2 ^ 33)

star_reach : implies (bound_of (limits_at 56) star_bounds (sidereal_by (argument 0) (argument 1)))
    (bounded (neg_ℤ (pos (2 ^ 90))) (pos (2 ^ 90)) (3 * 2 ^ 40) (2 ^ 34)) ≡ true
unfolding implies bound_of constant_bound sum_bound difference_bound sidereal_by
star_reach = refl

pub star_within : {E : Type 0} (shown : E → Interval) (n v : ℕ) (s p x : E) → n ≡ 56
    → IsUpTo 360 (2 * v + 2 ^ 32) (shown s)
    → IsAbout (2 ^ 39) (v / 1000 + 2 ^ 33) (shown p)
    → ((r : Reach) (y z : Expression) → Narrow shown (limits_of n) r y s → Narrow shown (limits_of n) r z p
    → Narrow shown (limits_of n) r (sidereal_by y z) x)
    → IsAbout (2 ^ 90) (3 * v + 2 ^ 34) (shown x)
star_within shown n v s p x e h k f =
    measured shown n v star_bounds (sidereal_by (argument 0) (argument 1)) _ _ (3 * 2 ^ 40) (2 ^ 34) (3 * v + 2 ^ 34) x
    e star_reach (omega arith)
    (f (record { width = v; bounds = star_bounds }) _ _ (sloped shown (limits_of n) v (2 * v + 2 ^ 32) star_bounds 0 _ _
    (2 * 2 ^ 40) (2 ^ 32) s refl
    (omega arith) h)
    (sloped shown (limits_of n) v (v / 1000 + 2 ^ 33) star_bounds 1 _ _ (2 ^ 40 / 1000 + 1) (2 ^ 33) p refl
    (omega arith) k))

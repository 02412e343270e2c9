-- How wide the sine of the moon's altitude is at the scale 2^-56. The bound of the definition over five free arguments,
-- the latitude of the ground, sidereal time, obliquity, longitude and latitude, is computed once of their ranges and
-- widths (`altitude_reach`), and `measured` leads from there to the enclosure.
use Rattle.std.specs.Prelude.{◌≡◌, ℕ, ◌+◌, ◌*◌, ◌^◌, true, pos, neg_ℤ, refl, if◌then◌else◌, ◌==◌}
use Rattle.std.proofs.Common.{arith}
use Rattle.book_model.specs.Interval.{Interval}
use Rattle.book_model.specs.numbers.Bounds.{Bound, bounded, Reach, implies, bound_of, limits_at, limits_of, sum_bound}
use Rattle.book_model.specs.numbers.Bounds.{difference_bound, product_bound, spanned_bound, sine_spans, cosine_spans}
use Rattle.book_model.specs.numbers.Expressions.{Expression, argument}
use Rattle.book_model.specs.numbers.Relations.{Narrow}
use Rattle.book_model.specs.sky.Altitude.{north_of, towards_of, east_of}
use Rattle.encl_core.proofs.Measuring.{measured, sloped}
use Rattle.rise_set.specs.Directions.{over_ground}
use Rattle.rise_set.specs.Altitudes.{IsMoonAngle, IsMoonLatitude, IsTilt, IsLocalSiderealTime, IsGround, IsAltitudeSine}

-- of the latitude of the ground, the local sidereal time, the obliquity, the longitude and the latitude of the moon
abbrev altitude_bounds : ℕ → Bound
altitude_bounds k =
    if k == 0 then bounded (pos 0) (pos (36 * 2 ^ 32)) 0 (2 ^ 8)
    else (if k == 1 then bounded (neg_ℤ (pos (2 ^ 62))) (pos (2 ^ 62)) 0 (2 ^ 41 + 2 ^ 8)
    else (if k == 2 then bounded (pos (23 * 2 ^ 32)) (pos (24 * 2 ^ 32)) 0 (2 ^ 13)
    else (if k == 3 then bounded (pos 0) (pos (360 * 2 ^ 32)) 0 (2 ^ 38)
    else bounded (neg_ℤ (pos (7 * 2 ^ 32))) (pos (7 * 2 ^ 32)) 0 (2 ^ 37))))

altitude_reach : implies
    (bound_of (limits_at 56) altitude_bounds (over_ground (argument 0) (argument 1) (argument 2) (argument 3)
    (argument 4)))
    (bounded (neg_ℤ (pos (2 ^ 34))) (pos (2 ^ 34)) 0 (2 ^ 37)) ≡ true
unfolding implies bound_of sum_bound difference_bound product_bound spanned_bound sine_spans cosine_spans over_ground
    north_of towards_of east_of
altitude_reach = refl

pub altitude_within : {E : Type 0} (shown : E → Interval) (n : ℕ) (g t o l b y : E) → n ≡ 56 → IsGround (shown g)
    → IsLocalSiderealTime (shown t)
    → IsTilt (shown o) → IsMoonAngle (shown l) → IsMoonLatitude (shown b)
    → ((r : Reach) (p q x z u : Expression) → Narrow shown (limits_of n) r p g → Narrow shown (limits_of n) r q t
    → Narrow shown (limits_of n) r x o
    → Narrow shown (limits_of n) r z l → Narrow shown (limits_of n) r u b
    → Narrow shown (limits_of n) r (over_ground p q x z u) y)
    → IsAltitudeSine (shown y)
altitude_within shown n g t o l b y e h i j k m f =
    measured shown n 0 altitude_bounds (over_ground (argument 0) (argument 1) (argument 2) (argument 3) (argument 4)) _
    _ 0 (2 ^ 37) (2 ^ 37) y e
    altitude_reach (omega arith)
    (f (record { width = 0; bounds = altitude_bounds }) (argument 0) (argument 1) (argument 2) (argument 3) (argument 4)
    (sloped shown (limits_of n) 0 (2 ^ 8) altitude_bounds 0 (pos 0) (pos (36 * 2 ^ 32)) 0 (2 ^ 8) g refl
    (omega arith) h)
    (sloped shown (limits_of n) 0 (2 ^ 41 + 2 ^ 8) altitude_bounds 1 (neg_ℤ (pos (2 ^ 62))) (pos (2 ^ 62)) 0
    (2 ^ 41 + 2 ^ 8) t refl (omega arith) i)
    (sloped shown (limits_of n) 0 (2 ^ 13) altitude_bounds 2 (pos (23 * 2 ^ 32)) (pos (24 * 2 ^ 32)) 0 (2 ^ 13) o refl
    (omega arith) j)
    (sloped shown (limits_of n) 0 (2 ^ 38) altitude_bounds 3 (pos 0) (pos (360 * 2 ^ 32)) 0 (2 ^ 38) l refl
    (omega arith) k)
    (sloped shown (limits_of n) 0 (2 ^ 37) altitude_bounds 4 (neg_ℤ (pos (7 * 2 ^ 32))) (pos (7 * 2 ^ 32)) 0 (2 ^ 37) b
    refl (omega arith) m))

-- How wide the distance of the moon, its altitude and what they are taken of are at the scale 2^-56.
use Rattle.std.specs.Prelude.{◌≡◌, ℕ, ◌+◌, ◌*◌, ◌^◌, pos, neg_ℤ, Bool, true, if◌then◌else◌, ◌==◌}
use Rattle.book_model.specs.Interval.{Interval}
use Rattle.book_model.specs.declared.horizon.Location.{Location}
use Rattle.book_model.specs.numbers.Bounds.{Bound, bounded, bound_of, implies, limits_at}
use Rattle.book_model.specs.numbers.Expressions.{argument}
use Rattle.book_model.specs.programs.Widths.{IsWithin, IsAbout, IsMoment, IsUpTo, IsDated}
use Rattle.encl_core.specs.GreatestWidths.{greatest_of}
use Rattle.encl_core.specs.declared.greatest_widths.TheConstants.{DISTANCE, LATITUDE, MOON, SIDEREAL}
use Rattle.rise_set.specs.Widths.{IsNarrowLocation}
use Rattle.book_model.specs.sky.Moonrise.{sky_sine_of}

-- a distance of the moon from the earth, from 355,000 to 415,000 kilometres, by the width of the moment
abbrev pub IsDistance : ℕ → Interval → Type 0
IsDistance v i = IsWithin (pos (355000 * 2 ^ 32)) (pos (415000 * 2 ^ 32)) (greatest_of DISTANCE v) i

-- ---- at a moment that is at most 2^-48 days wide
-- the moment, and one of the years of which ΔT is known
abbrev pub IsExact : Interval → Type 0
IsExact i = IsMoment (2 ^ 16) i

abbrev pub IsDatedExact : Interval → Type 0
IsDatedExact i = IsDated 0 (2 ^ 16) i

-- a sidereal time at Greenwich, not reduced: hardly more than 2^-27 degrees wide at most
abbrev pub IsSiderealTime : Interval → Type 0
IsSiderealTime i = IsAbout (2 ^ 61) (greatest_of SIDEREAL (2 ^ 16)) i

-- a longitude and a latitude of the moon: hardly more than 2^-28 degrees wide at most
abbrev pub IsMoonLongitude : Interval → Type 0
IsMoonLongitude i = IsUpTo 360 (greatest_of MOON (2 ^ 16)) i

abbrev pub IsMoonLatitude : Interval → Type 0
IsMoonLatitude i = IsAbout (7 * 2 ^ 32) (greatest_of LATITUDE (2 ^ 16)) i

-- a distance of the moon
abbrev pub IsMoonDistance : Interval → Type 0
IsMoonDistance i = IsDistance (2 ^ 16) i

-- the sine of an altitude: at most 2^-30 wide
abbrev pub IsSkySine : Interval → Type 0
IsSkySine i = IsAbout (2 ^ 34) (2 ^ 34) i

-- An altitude by such a sine. Of one within 9/16 of 0 it is at most 5/4 of 2^-24 degrees wide. Near the zenith or the
-- nadir, where an arcsine is steep, it may be wide, but it lies at least 6 degrees above or below the horizon.
pub data IsAltitude : Interval → Type 0 where
  level : {i : Interval} → IsAbout (36 * 2 ^ 32) (5 * 2 ^ 38) i → IsAltitude i
  above : {i : Interval} → IsWithin (pos (6 * 2 ^ 32)) (pos (91 * 2 ^ 32)) (2 ^ 71) i → IsAltitude i
  below : {i : Interval} → IsWithin (neg_ℤ (pos (91 * 2 ^ 32))) (neg_ℤ (pos (6 * 2 ^ 32))) (2 ^ 71) i → IsAltitude i

-- An observed altitude: near the horizon it is at most 2^-23 degrees wide; elsewhere it lies at least 4 degrees above 0
-- or a fourth of one below.
pub data IsHeight : Interval → Type 0 where
  near : {i : Interval} → IsAbout (41 * 2 ^ 32) (2 ^ 41) i → IsHeight i
  high : {i : Interval} → IsWithin (pos (4 * 2 ^ 32)) (pos (100 * 2 ^ 32)) (2 ^ 72) i → IsHeight i
  low : {i : Interval} → IsWithin (neg_ℤ (pos (100 * 2 ^ 32))) (neg_ℤ (pos (2 ^ 30))) (2 ^ 72) i → IsHeight i

-- ---- locations
-- of a sidereal time at Greenwich, an obliquity of the ecliptic, and a longitude and a latitude of the moon
abbrev pub sky_bounds : ℕ → Bound
sky_bounds k =
    if k == 0 then bounded (neg_ℤ (pos (2 ^ 61))) (pos (2 ^ 61)) 0 (362 * 2 ^ 16 + 2 ^ 37)
    else (if k == 1 then bounded (pos (23 * 2 ^ 32)) (pos (24 * 2 ^ 32)) 0 (2 ^ 13)
    else (if k == 2 then bounded (pos 0) (pos (360 * 2 ^ 32)) 0 (20 * 2 ^ 16 + 2 ^ 36)
    else bounded (neg_ℤ (pos (7 * 2 ^ 32))) (pos (7 * 2 ^ 32)) 0 (4 * 2 ^ 16 + 2 ^ 36)))

-- the sine of the altitude at a location is narrow, where these are
abbrev pub is_sky_location : Location → Bool
is_sky_location p =
    implies (bound_of (limits_at 56) sky_bounds (sky_sine_of p (argument 0) (argument 1) (argument 2) (argument 3)))
    (bounded (neg_ℤ (pos (2 ^ 34))) (pos (2 ^ 34)) 0 (2 ^ 34))

-- a location at which the sky is measured so: its refraction is narrow, and the sine of an altitude
pub record IsSkyLocation (p : Location) : Type 0 where
  pub narrow : IsNarrowLocation p
  pub sine : is_sky_location p ≡ true

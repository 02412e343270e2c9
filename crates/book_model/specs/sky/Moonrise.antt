-- Moonrise and moonset at a location: when the moon's upper edge is seen to come above the level of the horizon, and to
-- go below it. The air lifts the moon there, the height of the location lowers the horizon, and the moon stands lower
-- for an observer on the ground than for one at the centre of the earth. Angles are in degrees, moments in days (R.D.).
-- Altitude and parallax: Reingold and Dershowitz, Calendrical Calculations, chapter 14.
use Rattle.std.specs.Prelude.{ℕ, ℤ, pos, Bool}
use Rattle.exact_math.specs.Fraction.{Fraction}
use Rattle.book_model.specs.declared.fact.Place.{Place}
use Rattle.book_model.specs.declared.horizon.Location.{Location}
use Rattle.book_model.specs.declared.location_tables.TheConstants.{EQUATOR_RADIUS}
use Rattle.book_model.specs.declared.site.Site.TheVariants.{Rise}
use Rattle.book_model.specs.numbers.Expressions.{Expression, integer, constant, add, subtract, divide, scale, cosine}
use Rattle.book_model.specs.numbers.Expressions.{arcsine}
use Rattle.book_model.specs.numbers.Fractions.{fraction_of}
use Rattle.book_model.specs.programs.Crossings.{crossing_of, opposite_of}
use Rattle.book_model.specs.programs.Programs.{Program, answer, compare, bind}
use Rattle.book_model.specs.sky.Altitude.{altitude_sine_of}
use Rattle.book_model.specs.sky.Crescent.{obliquity_at_of}
use Rattle.book_model.specs.sky.Distance.{distance_of}
use Rattle.book_model.specs.sky.Horizon.{sunset_depression_of}
use Rattle.book_model.specs.sky.Latitude.{latitude_of}
use Rattle.book_model.specs.sky.Moon.{moon_of}
use Rattle.book_model.specs.sky.Time.{midnight_of, sidereal_of}

-- ---- the observed altitude
-- the radius of the earth at the equator, in kilometres
abbrev pub equator_radius : Fraction
equator_radius = fraction_of EQUATOR_RADIUS

-- the parallax at an altitude, by the distance in kilometres: by how much lower the moon stands for an observer on the
-- ground
unfoldable pub parallax_of : (altitude distance : Expression) → Expression
parallax_of a d = arcsine (divide (scale equator_radius (cosine a)) d)

-- the altitude, less the parallax, and as much more as the sun's middle stands below the level when its upper edge is
-- seen to set
unfoldable pub lifted_of : (altitude distance depression : Expression) → Expression
lifted_of a d p = add (subtract a (parallax_of a d)) p

-- the same by the sine of the altitude
unfoldable pub height_of : (sine distance depression : Expression) → Expression
height_of s d p = lifted_of (arcsine s) d p

-- the sine of the altitude at a location, by the sidereal time at Greenwich
unfoldable pub sky_sine_of : Location → (sidereal obliquity longitude latitude : Expression) → Expression
sky_sine_of p t o l b = altitude_sine_of (fraction_of p.latitude) (add t (constant (fraction_of p.longitude))) o l b

-- the observed altitude at a moment of universal time, by the sidereal time at Greenwich and the obliquity of the
-- ecliptic
unfoldable pub observed_with_of : Location → (x sidereal obliquity : Expression) → Program Expression
observed_with_of p x t o =
    bind (moon_of x) λ l.
    bind (latitude_of x) λ b.
    bind (distance_of x) λ d.
    answer (height_of (sky_sine_of p t o l b) d (sunset_depression_of p))

-- the observed altitude at a moment of universal time
unfoldable pub observed_of : Location → Expression → Program Expression
observed_of p x =
    bind (sidereal_of x) λ t.
    bind (obliquity_at_of x) λ o.
    observed_with_of p x t o

-- whether the moon is up: its observed altitude is above 0
unfoldable pub up_of : Location → Expression → Program Bool
up_of p x = bind (observed_of p x) λ h. compare Rise (integer (pos 0)) h answer

-- ---- a day
-- the part of a day that is before the moment of a number: 1536 are a day
abbrev pub part_of_day : ℕ → Fraction
part_of_day i = record { num = pos i; below = 1535 }

-- the moment of a number of a day at a place, in universal time
unfoldable pub moment_of : Place → ℤ → ℕ → Expression
moment_of place d i = add (midnight_of place d) (constant (part_of_day i))

-- whether the moon is up at that moment
unfoldable pub up_at_of : Place → Location → ℤ → ℕ → Program Bool
up_at_of place p d i = up_of p (moment_of place d i)

-- the minute of the day at which the moon first rises; -1 where it doesn't
unfoldable pub moonrise_of : Place → Location → ℤ → Program ℤ
moonrise_of place p d = crossing_of (up_at_of place p d)

-- the minute of the day at which it first sets; -1 where it doesn't
unfoldable pub moonset_of : Place → Location → ℤ → Program ℤ
moonset_of place p d = crossing_of (opposite_of (up_at_of place p d))

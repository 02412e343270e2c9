-- Dawn, dusk and sunset at a location: when the sun stands so many degrees below the horizon, which is its depression.
-- Angles are in degrees, moments in days (R.D.) of local mean time, but where universal time is named. Reingold and
-- Dershowitz, Calendrical Calculations, chapter 14.
use Rattle.std.specs.Prelude.{ℕ, zero, suc, ◌+◌, ◌-◌, Bool, if◌then◌else◌, ℤ, pos, ◌*ℤ◌}
use Rattle.exact_math.specs.Fraction.{Fraction}
use Rattle.book_model.specs.declared.horizon.Location.{Location}
use Rattle.book_model.specs.declared.horizon.Twilight.{Twilight}
use Rattle.book_model.specs.declared.horizon.Twilight.TheVariants.{Dawn, Dusk}
use Rattle.book_model.specs.declared.location_tables.TheConstants.{QUARTER, THREE_QUARTERS, HALF_MINUTE, REFRACTION}
use Rattle.book_model.specs.declared.location_tables.TheConstants.{REFRACTION_OF_HEIGHT, HALF_SUN, EARTH_RADIUS, UJJAIN}
use Rattle.book_model.specs.declared.location_tables.TheConstants.{HINDU_SUNRISE_DEPRESSION, MINUTES, MINUTES_OF_DAY}
use Rattle.book_model.specs.declared.site.Site.TheVariants.{DayFloor, Offset, Round, Settle}
use Rattle.book_model.specs.declared.sun_tables.TheConstants.{DEGREE_IN_DAYS}
use Rattle.book_model.specs.declared.tables.TheConstants.{HALF}
use Rattle.book_model.specs.numbers.Expressions.{Expression, integer, constant, add, subtract, multiply, divide, scale}
use Rattle.book_model.specs.numbers.Expressions.{root, sine, cosine, tangent, arcsine, arccosine}
use Rattle.book_model.specs.numbers.Fractions.{fraction_of}
use Rattle.book_model.specs.sky.Noon.{ahead_of, from_apparent_of}
use Rattle.book_model.specs.sky.Phases.{size_of}
use Rattle.book_model.specs.programs.Programs.{Program, answer, void, cell, compare, bind, integers}
use Rattle.book_model.specs.sky.Sun.{sun_of, obliquity_of}
use Rattle.book_model.specs.sky.Time.{centuries_of}

-- the universal time of a moment of local mean time at a longitude east of Greenwich
unfoldable pub universal_of : Fraction → Expression → Expression
universal_of l x = subtract x (ahead_of l)

-- ---- how far the sun is from the horizon
-- the declination of the sun, by the obliquity of the ecliptic and its longitude
unfoldable pub declination_by : (o s : Expression) → Expression
declination_by o s = arcsine (multiply (sine o) (sine s))

-- the declination of the sun at a moment of universal time
unfoldable pub declination_of : Expression → Program Expression
declination_of x =
    bind (centuries_of x) λ c.
    bind (obliquity_of c) λ o.
    bind (sun_of x) λ s.
    answer (declination_by o s)

-- what the latitude and the declination make of it, and what the depression does
abbrev pub by_declination : (l d : Expression) → Expression
by_declination l d = multiply (tangent l) (tangent d)

abbrev pub by_depression : (l a d : Expression) → Expression
by_depression l a d = divide (sine a) (multiply (cosine d) (cosine l))

-- the sine of the hour angle at which the sun has a depression, less a quarter of a turn: by the latitude and the
-- declination
unfoldable pub offset_by : Fraction → (a d : Expression) → Expression
offset_by l a d = add (by_declination (constant l) d) (by_depression (constant l) a d)

-- the same for the sun's declination at a moment
unfoldable pub offset_of : Location → (a x : Expression) → Program Expression
offset_of p a x = bind (declination_of (universal_of (fraction_of p.longitude) x)) λ d. answer
    (offset_by (fraction_of p.latitude) a d)

-- whether it is no sine of an angle, so that the sun doesn't reach the depression
unfoldable pub is_out_of_reach : Expression → Program Bool
is_out_of_reach s = compare Offset (integer (pos 1)) (size_of s) answer

unfoldable pub if_reached : Expression → Bool → Program Expression
if_reached s out = if out then void Offset else answer s

-- the offset at a moment; where the sun doesn't reach the depression it is void
unfoldable pub reached_offset_of : Location → (a x : Expression) → Program Expression
reached_offset_of p a x = bind (offset_of p a x) λ s. bind (is_out_of_reach s) (if_reached s)

-- ---- one approximation
-- where the offset is taken anew: as a day begins, for dawn, and as it ends, for dusk
unfoldable pub edge_of : Twilight → ℤ → Expression
edge_of Dawn d = integer d
edge_of Dusk d = add (integer d) (integer (pos 1))

unfoldable pub or_at_edge : Location → Twilight → Expression → ℤ → Expression → Bool → Program Expression
or_at_edge p k a d s out = if out then reached_offset_of p a (edge_of k d) else answer s

-- the offset at a moment, or at the edge of its day where the sun doesn't reach the depression then
unfoldable pub near_offset_of : Location → Twilight → Expression → ℤ → Expression → Program Expression
near_offset_of p k a d x = bind (offset_of p a x) λ s. bind (is_out_of_reach s) (or_at_edge p k a d s)

-- a quarter of a day or three quarters: when the sun rises or sets at the equinox, in apparent time
unfoldable pub quarter_of : Twilight → ℤ → Expression
quarter_of Dawn d = add (integer d) (constant (fraction_of QUARTER))
quarter_of Dusk d = add (integer d) (constant (fraction_of THREE_QUARTERS))

-- the angle of an offset, as a part of a day
abbrev pub part_of : Expression → Expression
part_of s = scale (fraction_of DEGREE_IN_DAYS) (arcsine s)

-- the apparent time at which the sun has the depression, by the offset
unfoldable pub apparent_by : Twilight → ℤ → Expression → Expression
apparent_by Dawn d s = subtract (quarter_of Dawn d) (part_of s)
apparent_by Dusk d s = add (quarter_of Dusk d) (part_of s)

-- the moment on a day, from one near to it
unfoldable pub approximation_on : Location → Twilight → Expression → Expression → ℤ → Program Expression
approximation_on p k a x d = bind (near_offset_of p k a d x) λ s. from_apparent_of (fraction_of p.longitude)
    (apparent_by k d s)

-- the moment at which the sun has the depression, from one near to it
unfoldable pub approximation_of : Location → Twilight → (a x : Expression) → Program Expression
approximation_of p k a x = bind (cell DayFloor integers x answer) (approximation_on p k a x)

-- ---- dawn and dusk
-- whether two moments are less than half a minute apart
unfoldable pub has_settled_of : (x y : Expression) → Program Bool
has_settled_of x y = compare Settle (size_of (subtract y x)) (constant (fraction_of HALF_MINUTE)) answer

-- approximations, so many at most, from a moment on until two are less than half a minute apart; where none are it is
-- void
unfoldable pub settled_of : ℕ → Location → Twilight → (a x : Expression) → Program Expression
settled_of zero p k a x = void Settle
settled_of (suc more) p k a x = bind (approximation_of p k a x) λ y. bind (has_settled_of x y) λ settled. if settled
    then answer y else settled_of more p k a y

-- dawn and dusk of a day by a depression
unfoldable pub depression_of : Location → Twilight → Expression → ℤ → Program Expression
depression_of p k a d = settled_of 12 p k a (quarter_of k d)

unfoldable pub dawn_of : Location → Expression → ℤ → Program Expression
dawn_of p a d = depression_of p Dawn a d

unfoldable pub dusk_of : Location → Expression → ℤ → Program Expression
dusk_of p a d = depression_of p Dusk a d

-- ---- sunset
-- the cosine of the angle by which the horizon lies deeper from so many metres of height
abbrev pub horizon_cosine : ℕ → Fraction
horizon_cosine height = record { num = pos EARTH_RADIUS; below = EARTH_RADIUS + height - 1 }

abbrev pub dip_of : ℕ → Expression
dip_of height = arccosine (constant (horizon_cosine height))

-- what the air lifts the sun besides from there
abbrev pub refraction_of_height : ℕ → Expression
refraction_of_height height = scale (fraction_of REFRACTION_OF_HEIGHT) (root (integer (pos height)))

-- what the air lifts the sun, and the height of the location lowers the horizon
unfoldable pub refraction_of : Location → Expression
refraction_of p = add (add (constant (fraction_of REFRACTION)) (dip_of p.height)) (refraction_of_height p.height)

-- the depression of the sun's middle when its upper edge sets
unfoldable pub sunset_depression_of : Location → Expression
sunset_depression_of p = add (refraction_of p) (constant (fraction_of HALF_SUN))

-- sunset on a day, in universal time
unfoldable pub sunset_of : Location → ℤ → Program Expression
sunset_of p d = bind (dusk_of p (sunset_depression_of p) d) λ x. answer (universal_of (fraction_of p.longitude) x)

-- ---- sunrise and sunset of the Hindu calendars, at Ujjain
-- minutes from the day of R.D. 0 to a moment of a day, rounded: those to the beginning of the day, which are whole, and
-- those after it
abbrev pub minutes_after_of : ℤ → Expression → Expression
minutes_after_of d x = add (scale (fraction_of MINUTES_OF_DAY) (subtract x (integer d))) (constant (fraction_of HALF))

unfoldable pub rounded_minutes_of : ℤ → Expression → Program ℤ
rounded_minutes_of d x = cell Round integers (add (integer (pos MINUTES *ℤ d)) (minutes_after_of d x)) answer

-- a number of minutes, in days
abbrev pub minutes_in_days : ℤ → Fraction
minutes_in_days n = record { num = n; below = MINUTES - 1 }

-- when the sun rises on a day: a whole minute of local mean time, as universal time
unfoldable pub sunrise_of : ℤ → Program Expression
sunrise_of d =
    bind (dawn_of UJJAIN (constant (fraction_of HINDU_SUNRISE_DEPRESSION)) d) λ x.
    bind (rounded_minutes_of d x) λ n.
    answer (universal_of (fraction_of UJJAIN.longitude) (constant (minutes_in_days n)))

-- when the sun's middle sets on a day, the air left out, as universal time
unfoldable pub hindu_sunset_of : ℤ → Program Expression
hindu_sunset_of d = bind (dusk_of UJJAIN (integer (pos 0)) d) λ x. answer
    (universal_of (fraction_of UJJAIN.longitude) x)

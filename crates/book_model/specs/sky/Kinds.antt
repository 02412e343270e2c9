-- The formulas of the kinds of facts, each for a day (R.D.).
use Rattle.std.specs.Prelude.{ℤ, pos, ◌+ℤ◌, ◌-ℤ◌, ◌*ℤ◌, Bool, not, Option, Some, None}
use Rattle.book_model.specs.declared.site.Site.TheVariants.{Year, Round, StartFloor, DayFloor, DayTest, TermFloor}
use Rattle.book_model.specs.declared.calendar_tables.TheConstants.{AUTUMN, SPRING, WINTER}
use Rattle.book_model.specs.declared.fact.Place.{Place}
use Rattle.book_model.specs.declared.horizon.Location.{Location}
use Rattle.book_model.specs.declared.season.Season.{Season}
use Rattle.book_model.specs.declared.season.Side.{Side}
use Rattle.book_model.specs.declared.season.Side.TheVariants.{UpTo, Past, From}
use Rattle.book_model.specs.declared.location_tables.TheConstants.{TEHRAN, MINUTES_OF_DAY}
use Rattle.book_model.specs.declared.sun_tables.TheConstants.{DEGREE_IN_TERMS}
use Rattle.book_model.specs.declared.tables.TheConstants.{MILLISECONDS_OF_DAY, THOUSANDTHS_OF_DEGREE}
use Rattle.book_model.specs.declared.time_tables.TheConstants.{HOUR}
use Rattle.book_model.specs.sky.Correction.{year_of, rounded_of}
use Rattle.book_model.specs.numbers.Expressions.{Expression, integer, constant, add, subtract, scale}
use Rattle.book_model.specs.numbers.Fractions.{fraction_of}
use Rattle.book_model.specs.sky.Horizon.{sunset_of}
use Rattle.book_model.specs.sky.Noon.{noon_of, paris_midnight_of}
use Rattle.book_model.specs.programs.Programs.{Program, answer, void, cell, compare, bind, integers}
use Rattle.book_model.specs.programs.Searches.{first_day_from}
use Rattle.book_model.specs.calendars.Spans.{amod, modulo}
use Rattle.book_model.specs.sky.Sun.{sun_of, estimate_of, sun_from_of}
use Rattle.book_model.specs.sky.Phases.{moon_before_of, moon_from_of}
use Rattle.book_model.specs.sky.Time.{correction_of_year, zone_on, midnight_of, in_zone_of}

-- ΔT of a day's year, in milliseconds
unfoldable pub dt_of : ℤ → Program ℤ
dt_of d =
    bind (year_of (integer d)) λ y.
    bind (correction_of_year y) λ c.
    rounded_of (scale (fraction_of MILLISECONDS_OF_DAY) c)

-- the sun's longitude at the beginning of a day, in thousandths of a degree, rounded down
unfoldable pub sun_in_thousandths_of : ℤ → Program ℤ
sun_in_thousandths_of d =
    bind (sun_of (integer d)) λ s.
    cell Round integers (scale (fraction_of THOUSANDTHS_OF_DEGREE) s) answer

-- the sun's longitude at a moment of a day
unfoldable pub longitude_at_of : (ℤ → Program Expression) → ℤ → Program Expression
longitude_at_of moment d = bind (moment d) sun_of

-- ---- the search for a season
-- whether a longitude lies on a side
unfoldable pub is_on_side_of : Side → Expression → Program Bool
is_on_side_of (UpTo l) s = compare DayTest (integer l) s λ more. answer (not more)
is_on_side_of (Past l) s = compare DayTest (integer l) s answer
is_on_side_of (From l) s = compare DayTest s (integer l) λ less. answer (not less)

-- whether the sun stands on a side at a moment of a day
unfoldable pub has_side_at : (ℤ → Program Expression) → Side → ℤ → Program Bool
has_side_at moment side d = bind (longitude_at_of moment d) (is_on_side_of side)

-- the moment at which, as is estimated, the sun was last at a longitude before a moment of a day
unfoldable pub last_passage_of : (ℤ → Program Expression) → (l : ℤ) → ℤ → Program Expression
last_passage_of moment l d = bind (moment d) (estimate_of (integer l))

-- the day of that moment
unfoldable pub search_start_of : (ℤ → Program Expression) → (l : ℤ) → ℤ → Program ℤ
search_start_of moment l d =
    bind (last_passage_of moment l d) λ s.
    cell StartFloor integers s answer

-- the last day before a day, or the day itself, at whose moment a season has just begun
unfoldable pub season_day_of : (ℤ → Program Expression) → Season → ℤ → Program ℤ
season_day_of moment season d =
    bind (search_start_of moment season.longitude d) λ q.
    first_day_from (has_side_at moment season.side) (q -ℤ pos 1)

-- the first day of the Persian year in which a day falls: by true noon in Tehran
abbrev pub nowruz_of : ℤ → Program ℤ
nowruz_of d = season_day_of noon_of SPRING d

-- the first day of the Bahá'í year in which a day falls: by sunset in Tehran
abbrev pub bahai_year_of : ℤ → Program ℤ
bahai_year_of d = season_day_of (sunset_of TEHRAN) SPRING d

-- midnight at the end of a day at a place
unfoldable pub midnight_after_of : Place → ℤ → Program Expression
midnight_after_of place d = answer (midnight_of place (d +ℤ pos 1))

-- the day of the last winter solstice at a place before a day ends there
abbrev pub solstice_of : Place → ℤ → Program ℤ
solstice_of place d = season_day_of (midnight_after_of place) WINTER d

-- the first day of the French year in which a day falls: by apparent midnight at Paris at the end of a day
abbrev pub french_year_of : ℤ → Program ℤ
french_year_of d = season_day_of paris_midnight_of AUTUMN d

-- ---- sunset
-- a formula at the location of a place; where the place has none, it has no value
unfoldable pub located : Option Location → (Location → Program ℤ) → Program ℤ
located None formula = void Year
located (Some location) formula = formula location

-- a moment on a day at a place, in minutes of its time after midnight, not rounded
unfoldable pub minutes_of : Place → ℤ → Expression → Expression
minutes_of place d x = scale (fraction_of MINUTES_OF_DAY)
    (subtract (add x (scale (fraction_of HOUR) (constant (fraction_of (zone_on place d))))) (integer d))

-- sunset on a day at the location of a place, in these minutes, rounded
unfoldable pub sunset_in_minutes_of : Place → Location → ℤ → Program ℤ
sunset_in_minutes_of place p d = bind (sunset_of p d) λ x. rounded_of (minutes_of place d x)

-- ---- new moons and solar terms by the time of a place
-- the day of a moment of universal time at a place
unfoldable pub day_at : Place → Expression → Program ℤ
day_at place x =
    bind (in_zone_of place x) λ t.
    cell DayFloor integers t answer

-- the day at a place of the last new moon before a day begins there
unfoldable pub new_moon_before_of : Place → ℤ → Program ℤ
new_moon_before_of place d = bind (moon_before_of (midnight_of place d)) (day_at place)

-- the day at a place of the first new moon once a day has begun there
unfoldable pub new_moon_from_of : Place → ℤ → Program ℤ
new_moon_from_of place d = bind (moon_from_of (midnight_of place d)) (day_at place)

-- the sun's longitude when a day begins at a place
unfoldable pub longitude_at_midnight_of : Place → ℤ → Program Expression
longitude_at_midnight_of place d = sun_of (midnight_of place d)

-- how many major solar terms, which are 30 degrees apart, the sun has passed since the spring equinox when a day begins
-- at a place
unfoldable pub terms_passed_of : Place → ℤ → Program ℤ
terms_passed_of place d =
    bind (longitude_at_midnight_of place d) λ s.
    cell TermFloor integers (scale (fraction_of DEGREE_IN_TERMS) s) answer

-- the number, from 1 to 12, of the last major solar term when a day begins at a place: that at 330 degrees is the first
unfoldable pub major_of : Place → ℤ → Program ℤ
major_of place d = bind (terms_passed_of place d) λ q. answer (amod (pos 2 +ℤ q) 12)

-- the whole spans of 30 degrees, rounded down, from the sun's longitude when a day begins at a place to a longitude r
unfoldable pub spans_short_of : Place → (r d : ℤ) → Program ℤ
spans_short_of place r d =
    bind (longitude_at_midnight_of place d) λ s.
    cell TermFloor integers (scale (fraction_of DEGREE_IN_TERMS) (subtract (integer r) s)) answer

-- the longitude of the next solar term: the one so many spans of 30 degrees before r, from 0 to 359
unfoldable pub term_longitude : (r spans : ℤ) → ℤ
term_longitude r spans = modulo (r -ℤ pos 30 *ℤ spans) 360

-- the day at a place on which the sun is next at a longitude, once the day d has begun there
unfoldable pub longitude_day_of : Place → (l d : ℤ) → Program ℤ
longitude_day_of place l d = bind (sun_from_of (integer l) (midnight_of place d)) (day_at place)

-- the day at a place on which the sun reaches the first of the longitudes r, r + 30, r + 60 .. once the day d has begun
-- there
unfoldable pub term_day_of : Place → (r d : ℤ) → Program ℤ
term_day_of place r d = bind (spans_short_of place r d) λ n. longitude_day_of place (term_longitude r n) d

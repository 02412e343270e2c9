-- Universal, dynamical and sidereal time, and the zones of places. Moments are days (R.D.) with a fraction.
-- Reingold and Dershowitz, Calendrical Calculations, chapter 14.
use Rattle.std.specs.Prelude.{if◌then◌else◌, int_lt, ℤ, pos, ◌-ℤ◌, unsigned_abs, List, [], ◌∷◌, Option, Some, None}
use Rattle.exact_math.specs.Fraction.{Fraction}
use Rattle.book_model.specs.declared.site.Site.TheVariants.{Year, Zone}
use Rattle.book_model.specs.declared.correction_rows.CorrectionForm.{CorrectionForm}
use Rattle.book_model.specs.declared.correction_rows.CorrectionForm.TheVariants.{SecondsSince, SecondsByHundreds}
use Rattle.book_model.specs.declared.correction_rows.CorrectionForm.TheVariants.{DaysByCenturies}
use Rattle.book_model.specs.declared.fact.Place.{Place}
use Rattle.book_model.specs.declared.frac.Frac.{Frac}
use Rattle.book_model.specs.declared.tables.TheConstants.{SECOND}
use Rattle.book_model.specs.declared.time_tables.TheConstants.{HOUR, DAY_IN_CENTURIES, NOON_2000, SIDEREAL_TIME}
use Rattle.book_model.specs.declared.zone.ZoneStep.{ZoneStep}
use Rattle.book_model.specs.calendars.Gregorian.{fixed_of}
use Rattle.book_model.specs.sky.Correction.{Correction, row_of_year, seconds_of, year_of}
use Rattle.book_model.specs.sky.Names.{zone_steps, last_hours}
use Rattle.book_model.specs.numbers.Expressions.{Expression, integer, constant, add, subtract, scale}
use Rattle.book_model.specs.numbers.Fractions.{fraction_of}
use Rattle.book_model.specs.numbers.Polynomials.{polynomial_at, cubic_of}
use Rattle.book_model.specs.programs.Programs.{Program, answer, void, compare, bind}

-- a year in hundreds of years
abbrev pub hundreds_of : ℤ → Fraction
hundreds_of y = record { num = y; below = 99 }

-- 1 July of a year, in centuries from the last day of 1899
abbrev pub centuries_to_july : ℤ → Fraction
centuries_to_july y = record { num = fixed_of (unsigned_abs y) 7 1 -ℤ pos 693596; below = 36524 }

-- dynamical time less universal time in a year, in days, by the form and the coefficients of a row
unfoldable pub correction_by : CorrectionForm → List Frac → ℤ → Expression
correction_by (SecondsSince origin) cs y = seconds_of cs origin y
correction_by SecondsByHundreds cs y = scale (fraction_of SECOND) (polynomial_at cs (hundreds_of y))
correction_by DaysByCenturies cs y = polynomial_at cs (centuries_to_july y)

-- the same by the row that the year has, if it has one
abbrev pub by_row : ℤ → Option Correction → Program Expression
by_row y None = void Year
by_row y (Some row) = answer (correction_by row.form row.coefficients y)

-- the same by the table; in some years there is no formula
unfoldable pub correction_of_year : ℤ → Program Expression
correction_of_year y = by_row y (row_of_year y)

-- ΔT of a moment's year
unfoldable pub correction_at : Expression → Program Expression
correction_at x = bind (year_of x) λ y. correction_of_year y

-- the dynamical time of a moment of universal time
unfoldable pub dynamical_of : Expression → Program Expression
dynamical_of x = bind (correction_at x) λ c. answer (add x c)

-- the universal time of a moment of dynamical time, by the year of that moment
unfoldable pub from_dynamical_of : Expression → Program Expression
from_dynamical_of x = bind (correction_at x) λ c. answer (subtract x c)

-- days as centuries from noon of 1 January 2000
unfoldable pub in_centuries : Expression → Expression
in_centuries x = scale (fraction_of DAY_IN_CENTURIES) (subtract x (constant (fraction_of NOON_2000)))

-- the centuries of dynamical time from noon of 1 January 2000 to a moment of universal time
unfoldable pub centuries_of : Expression → Program Expression
centuries_of x = bind (dynamical_of x) λ d. answer (in_centuries d)

-- mean sidereal time at Greenwich, in degrees, not reduced
unfoldable pub sidereal_of : Expression → Program Expression
sidereal_of x = answer (cubic_of SIDEREAL_TIME (in_centuries x))

-- the hours by which the time of a zone is ahead of universal time at a moment: the days on which it changes are tried
-- in order until the moment is before one
unfoldable pub hours_at_of : List ZoneStep → Frac → Expression → Program Expression
hours_at_of [] last x = answer (constant (fraction_of last))
hours_at_of (step ∷ steps) last x =
    bind (compare Zone x (integer step.before) answer) λ early.
    if early then answer (constant (fraction_of step.hours)) else hours_at_of steps last x

-- the same as a day begins, which makes no test
abbrev pub hours_on : List ZoneStep → Frac → ℤ → Frac
hours_on [] last d = last
hours_on (step ∷ steps) last d = if int_lt d step.before then step.hours else hours_on steps last d

-- the hours by which the time of a place is ahead of universal time at a moment
unfoldable pub zone_of : Place → Expression → Program Expression
zone_of place x = hours_at_of (zone_steps place) (last_hours place) x

-- the same on a day
unfoldable pub zone_on : Place → ℤ → Frac
zone_on place d = hours_on (zone_steps place) (last_hours place) d

-- midnight at the beginning of a day at a place, in universal time
unfoldable pub midnight_of : Place → ℤ → Expression
midnight_of place d = subtract (integer d) (scale (fraction_of HOUR) (constant (fraction_of (zone_on place d))))

-- the time of a place at a moment of universal time
unfoldable pub in_zone_of : Place → Expression → Program Expression
in_zone_of place x = bind (zone_of place x) λ z. answer (add x (scale (fraction_of HOUR) z))

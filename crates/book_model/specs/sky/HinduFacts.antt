-- The formulas of the facts of the Hindu calendars, each for a day (R.D.): by sunrise and sunset at Ujjain.
-- Reingold and Dershowitz, Calendrical Calculations, chapter 20.
use Rattle.std.specs.Prelude.{ℤ, pos, ◌+ℤ◌, ◌-ℤ◌, Bool}
use Rattle.std.specs.Ordering.{int_eq}
use Rattle.book_model.specs.declared.site.Site.TheVariants.{Round, Sidereal}
use Rattle.book_model.specs.declared.sun_tables.TheConstants.{DEGREE_IN_LUNAR_DAYS}
use Rattle.book_model.specs.numbers.Expressions.{Expression, integer, scale}
use Rattle.book_model.specs.numbers.Fractions.{fraction_of}
use Rattle.book_model.specs.sky.Horizon.{sunrise_of, hindu_sunset_of}
use Rattle.book_model.specs.sky.Phases.{phase_of, moon_before_of, moon_from_of}
use Rattle.book_model.specs.programs.Programs.{Program, answer, cell, bind, integers}
use Rattle.book_model.specs.programs.Searches.{first_day_from}
use Rattle.book_model.specs.sky.Sidereal.{sidereal_sun_of, sign_of, hindu_year_of}
use Rattle.book_model.specs.calendars.Spans.{modulo}

-- the sign of the zodiac in which the sun stands at sunset
unfoldable pub sign_at_sunset_of : ℤ → Program ℤ
sign_at_sunset_of d = bind (hindu_sunset_of d) sign_of

-- the year of the Kali Yuga at sunset
unfoldable pub year_at_sunset_of : ℤ → Program ℤ
year_at_sunset_of d = bind (hindu_sunset_of d) hindu_year_of

-- whether the sun stands in a sign at the sunset of a day
unfoldable pub has_sign_at : (sign d : ℤ) → Program Bool
has_sign_at g d = bind (sign_at_sunset_of d) λ k. answer (int_eq k g)

-- the whole degrees of the sun's longitude among the stars at a moment
unfoldable pub whole_degrees_of : Expression → Program ℤ
whole_degrees_of x = bind (sidereal_sun_of x) λ s. cell Sidereal integers s answer

-- the day three days before the one that is as many days before a day as the sun has gone degrees of its sign
abbrev pub before_sign : (d degrees : ℤ) → ℤ
before_sign d degrees = d -ℤ pos 3 -ℤ modulo degrees 30

-- the first day from there on whose sunset the sun stands in the sign in which it stands at the moment x
unfoldable pub sign_entered_of : (d : ℤ) (x : Expression) → Program ℤ
sign_entered_of d x =
    bind (sign_of x) λ g.
    bind (whole_degrees_of x) λ degrees.
    first_day_from (has_sign_at g) (before_sign d degrees)

-- the first day of the solar month in which a day falls: by whose sunset the sun has come into its sign, which is its
-- sankranti
unfoldable pub sankranti_of : ℤ → Program ℤ
sankranti_of d = bind (hindu_sunset_of d) (sign_entered_of d)

-- the whole lunar days of 12 degrees of the moon's phase that have passed of its month at a moment, from 0 to 29
unfoldable pub lunar_days_passed_of : Expression → Program ℤ
lunar_days_passed_of x = bind (phase_of x) λ p. cell Round integers (scale (fraction_of DEGREE_IN_LUNAR_DAYS) p) answer

-- the lunar day, from 1 to 30, at sunrise
unfoldable pub tithi_of : ℤ → Program ℤ
tithi_of d =
    bind (sunrise_of d) λ x.
    bind (lunar_days_passed_of x) λ q.
    answer (q +ℤ pos 1)

-- the sign in which the sun stood at the last new moon before sunrise
unfoldable pub sign_before_of : ℤ → Program ℤ
sign_before_of d =
    bind (sunrise_of d) λ x.
    bind (moon_before_of x) sign_of

-- the sign in which it stands at the first new moon from sunrise on
unfoldable pub sign_after_of : ℤ → Program ℤ
sign_after_of d =
    bind (sunrise_of d) λ x.
    bind (moon_from_of x) sign_of

-- the year of the Kali Yuga when a day begins in universal time
unfoldable pub calendar_year_of : ℤ → Program ℤ
calendar_year_of d = hindu_year_of (integer d)

-- Precession, the sun's longitude among the stars, and what the Hindu calendars take of it: the sign of the zodiac and
-- the year of the Kali Yuga. Angles are in degrees, moments in days (R.D.) of universal time; c is in centuries.
-- Reingold and Dershowitz, Calendrical Calculations, chapters 14 and 20.
use Rattle.std.specs.Prelude.{ℤ, pos, ◌+ℤ◌, neg_ℤ}
use Rattle.book_model.specs.declared.calendar_tables.TheConstants.{HINDU_EPOCH}
use Rattle.book_model.specs.declared.site.Site.TheVariants.{Sidereal}
use Rattle.book_model.specs.declared.sun_tables.TheConstants.{DAY_IN_SIDEREAL_YEARS, DEGREE_IN_SIGNS, DEGREE_IN_TURNS}
use Rattle.book_model.specs.declared.sun_tables.TheConstants.{ECLIPTIC_CROSSING, ECLIPTIC_TILT, EQUINOX_ADVANCE}
use Rattle.book_model.specs.declared.sun_tables.TheConstants.{SIDEREAL_START}
use Rattle.book_model.specs.sky.Correction.{rounded_of}
use Rattle.book_model.specs.numbers.Expressions.{Expression, integer, constant, add, subtract, multiply, scale, sine}
use Rattle.book_model.specs.numbers.Expressions.{cosine, arctangent_of_two, remainder}
use Rattle.book_model.specs.numbers.Fractions.{fraction_of}
use Rattle.book_model.specs.numbers.Polynomials.{quadratic_of, cubic_of}
use Rattle.book_model.specs.programs.Programs.{Program, answer, cell, bind, integers, multiples}
use Rattle.book_model.specs.sky.Sun.{sun_of}
use Rattle.book_model.specs.sky.Time.{centuries_of}

-- precession by the tilt of the ecliptic, where it crosses that of 2000, and the advance of the equinox
unfoldable pub precession_by : (tilt crossing advance : Expression) → Expression
precession_by t p a = subtract (add a p) (arctangent_of_two (multiply (cosine t) (sine p)) (cosine p))

-- precession at a time, not reduced
unfoldable pub precession_at_of : Expression → Expression
precession_at_of c = precession_by (cubic_of ECLIPTIC_TILT c) (quadratic_of ECLIPTIC_CROSSING c)
    (cubic_of EQUINOX_ADVANCE c)

-- and at a moment
unfoldable pub precession_of : Expression → Program Expression
precession_of x = bind (centuries_of x) λ c. answer (precession_at_of c)

-- the sun's longitude s among the stars, where precession is p
unfoldable pub sidereal_by : (s p : Expression) → Expression
sidereal_by s p = add (subtract s p) (constant (fraction_of SIDEREAL_START))

unfoldable pub starred_of : Expression → Program Expression
starred_of x = cell Sidereal (multiples 360) x λ q. answer (remainder 360 x q)

-- the sun's longitude among the stars at a moment, from 0 up to 360
unfoldable pub sidereal_sun_of : Expression → Program Expression
sidereal_sun_of x =
    bind (sun_of x) λ s.
    bind (precession_of x) λ p.
    starred_of (sidereal_by s p)

-- the whole signs of the zodiac that the sun has passed at a moment, from 0 to 11
unfoldable pub signs_passed_of : Expression → Program ℤ
signs_passed_of x = bind (sidereal_sun_of x) λ s. cell Sidereal integers (scale (fraction_of DEGREE_IN_SIGNS) s) answer

-- the sign, from 1 to 12, in which it stands
unfoldable pub sign_of : Expression → Program ℤ
sign_of x = bind (signs_passed_of x) λ q. answer (q +ℤ pos 1)

-- the sidereal years from the epoch to a moment, less what the sun has gone of the year
unfoldable pub years_gone_of : (x s : Expression) → Expression
years_gone_of x s = subtract (scale (fraction_of DAY_IN_SIDEREAL_YEARS) (add x (integer (neg_ℤ HINDU_EPOCH))))
    (scale (fraction_of DEGREE_IN_TURNS) s)

-- the year of the Kali Yuga at a moment, that from 0
unfoldable pub hindu_year_of : Expression → Program ℤ
hindu_year_of x = bind (sidereal_sun_of x) λ s. rounded_of (years_gone_of x s)

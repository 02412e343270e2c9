-- The apparent longitude of the moon. Angles are in degrees, moments in days; c is in centuries.
-- Reingold and Dershowitz, Calendrical Calculations, chapter 14; Meeus, Astronomical Algorithms, chapter 47.
use Rattle.std.specs.Prelude.{ℤ, pos, unsigned_abs}
use Rattle.exact_math.specs.Fraction.{whole}
use Rattle.book_model.specs.declared.moon_tables.TheConstants.{ECCENTRICITY_FACTOR, ELONGATION, FLATTENING}
use Rattle.book_model.specs.declared.moon_tables.TheConstants.{JUPITER_TERM, LATITUDE_ARGUMENT, MILLIONTH, MOON_ANOMALY}
use Rattle.book_model.specs.declared.moon_tables.TheConstants.{MOON_LONGITUDE, MOON_TERMS, SUN_ANOMALY, VENUS_TERM}
use Rattle.book_model.specs.declared.site.Site.TheVariants.{MoonWrap}
use Rattle.book_model.specs.declared.moon_terms.MoonTerm.{MoonTerm}
use Rattle.book_model.specs.numbers.Expressions.{Expression, add, subtract, scale, sine, remainder}
use Rattle.book_model.specs.numbers.Fractions.{fraction_of}
use Rattle.book_model.specs.numbers.Polynomials.{quadratic_of, cubic_of, quartic_of, periodic_term_of}
use Rattle.book_model.specs.programs.Programs.{Program, answer, cell, bind, multiples}
use Rattle.book_model.specs.sky.Sun.{nutation_of}
use Rattle.book_model.specs.numbers.Terms.{terms_of, times_power}
use Rattle.book_model.specs.sky.Time.{centuries_of}

-- the angles of which the moon's terms are made, and the factor of the eccentricity of the earth's orbit
pub record LunarAngles : Type 0 where
  pub elongation : Expression
  pub sun_anomaly : Expression
  pub moon_anomaly : Expression
  pub latitude_argument : Expression
  pub eccentricity : Expression

-- the angles at a time
unfoldable pub lunar_angles_of : Expression → LunarAngles
lunar_angles_of c =
    record {
      elongation = quartic_of ELONGATION c;
      sun_anomaly = cubic_of SUN_ANOMALY c;
      moon_anomaly = quartic_of MOON_ANOMALY c;
      latitude_argument = quartic_of LATITUDE_ARGUMENT c;
      eccentricity = quadratic_of ECCENTRICITY_FACTOR c;
    }

-- d D + m M + m' M' + f F
unfoldable pub lunar_angle_of : LunarAngles → (elongation sun_anomaly moon_anomaly latitude_argument : ℤ) → Expression
lunar_angle_of a d m n f =
    add (add (add (scale (whole d) a.elongation) (scale (whole m) a.sun_anomaly)) (scale (whole n) a.moon_anomaly))
    (scale (whole f) a.latitude_argument)

-- v E^|m| sin(d D + m M + m' M' + f F)
unfoldable pub lunar_term_of : LunarAngles → (elongation sun_anomaly moon_anomaly latitude_argument size : ℤ)
    → Expression
lunar_term_of a d m n f v =
    scale (whole v) (times_power a.eccentricity (unsigned_abs m) (sine (lunar_angle_of a d m n f)))

-- a term of the longitude
unfoldable pub longitude_term_of : LunarAngles → MoonTerm → Expression
longitude_term_of a t = lunar_term_of a t.elongation t.sun_anomaly t.moon_anomaly t.latitude_argument t.longitude

-- what stands for a term past the last
abbrev pub no_term : MoonTerm
no_term = record {
  elongation = pos 0;
  sun_anomaly = pos 0;
  moon_anomaly = pos 0;
  latitude_argument = pos 0;
  longitude = pos 0;
  distance = pos 0;
}

-- the sum of the longitude's terms
unfoldable pub longitude_terms_of : Expression → Expression
longitude_terms_of c = terms_of (longitude_term_of (lunar_angles_of c)) no_term MOON_TERMS

-- what the flattening of the earth adds: by the longitude less the argument of latitude
unfoldable pub flattening_of : Expression → Expression
flattening_of c = scale (fraction_of FLATTENING)
    (sine (subtract (quartic_of MOON_LONGITUDE c) (quartic_of LATITUDE_ARGUMENT c)))

-- what the moon is ahead of its mean longitude, in millionths of a degree
unfoldable pub inequalities_of : Expression → Expression
inequalities_of c = add (add (add (longitude_terms_of c) (periodic_term_of c VENUS_TERM))
    (periodic_term_of c JUPITER_TERM)) (flattening_of c)

-- the moon's longitude, not reduced
unfoldable pub moon_longitude_of : Expression → Expression
moon_longitude_of c = add (add (quartic_of MOON_LONGITUDE c) (scale (fraction_of MILLIONTH) (inequalities_of c)))
    (nutation_of c)

-- the moon's longitude at a moment of universal time
unfoldable pub moon_of : Expression → Program Expression
moon_of x =
    bind (centuries_of x) λ c.
    cell MoonWrap (multiples 360) (moon_longitude_of c) λ q.
    answer (remainder 360 (moon_longitude_of c) q)

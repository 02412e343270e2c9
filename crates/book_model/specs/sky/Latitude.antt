-- The latitude of the moon, from the ecliptic. Angles are in degrees, moments in days; c is in centuries.
-- Reingold and Dershowitz, Calendrical Calculations, chapter 14; Meeus, Astronomical Algorithms, chapter 47.
use Rattle.std.specs.Prelude.{pos}
use Rattle.exact_math.specs.Fraction.{whole}
use Rattle.book_model.specs.declared.moon_tables.TheConstants.{FLATTENING_ALONE, FLATTENING_LESS_ANOMALY}
use Rattle.book_model.specs.declared.moon_tables.TheConstants.{FLATTENING_WITH_ANOMALY, LATITUDE_TERMS, LATITUDE_TERM}
use Rattle.book_model.specs.declared.moon_tables.TheConstants.{MILLIONTH, MOON_LONGITUDE, VENUS_IN_LATITUDE, VENUS_TERM}
use Rattle.book_model.specs.declared.moon_terms.LatitudeTerm.{LatitudeTerm}
use Rattle.book_model.specs.numbers.Expressions.{Expression, add, subtract, scale, sine}
use Rattle.book_model.specs.numbers.Fractions.{fraction_of}
use Rattle.book_model.specs.sky.Moon.{LunarAngles, lunar_angles_of, lunar_term_of}
use Rattle.book_model.specs.numbers.Polynomials.{quartic_of, angle_of_term, periodic_term_of}
use Rattle.book_model.specs.programs.Programs.{Program, answer, bind}
use Rattle.book_model.specs.numbers.Terms.{terms_of}
use Rattle.book_model.specs.sky.Time.{centuries_of}

-- a term of the latitude
unfoldable pub latitude_term_of : LunarAngles → LatitudeTerm → Expression
latitude_term_of a t = lunar_term_of a t.elongation t.sun_anomaly t.moon_anomaly t.latitude_argument t.latitude

-- what stands for a term past the last
abbrev pub no_latitude_term : LatitudeTerm
no_latitude_term = record {
  elongation = pos 0;
  sun_anomaly = pos 0;
  moon_anomaly = pos 0;
  latitude_argument = pos 0;
  latitude = pos 0;
}

-- the sum of the terms
unfoldable pub latitude_terms_of : LunarAngles → Expression
latitude_terms_of a = terms_of (latitude_term_of a) no_latitude_term LATITUDE_TERMS

-- what Venus adds, by the angle of its periodic term and the argument of latitude
unfoldable pub venus_by : (venus argument : Expression) → Expression
venus_by v f = add (scale (whole VENUS_IN_LATITUDE) (sine (add v f)))
    (scale (whole VENUS_IN_LATITUDE) (sine (subtract v f)))

-- what the flattening of the earth adds, by the mean longitude and the anomaly of the moon
unfoldable pub flattening_by : (longitude anomaly : Expression) → Expression
flattening_by l m =
    add (add (scale (whole FLATTENING_ALONE) (sine l)) (scale (whole FLATTENING_LESS_ANOMALY) (sine (subtract l m))))
    (scale (whole FLATTENING_WITH_ANOMALY) (sine (add l m)))

-- the latitude in millionths of a degree
unfoldable pub millionths_of : LunarAngles → Expression → Expression
millionths_of a c =
    add (add (add (latitude_terms_of a) (venus_by (angle_of_term VENUS_TERM c) a.latitude_argument))
    (flattening_by (quartic_of MOON_LONGITUDE c) a.moon_anomaly)) (periodic_term_of c LATITUDE_TERM)

-- the latitude at a time
unfoldable pub latitude_at_of : Expression → Expression
latitude_at_of c = scale (fraction_of MILLIONTH) (millionths_of (lunar_angles_of c) c)

-- the moon's latitude at a moment of universal time
unfoldable pub latitude_of : Expression → Program Expression
latitude_of x = bind (centuries_of x) λ c. answer (latitude_at_of c)

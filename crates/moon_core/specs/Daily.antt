-- The moon's longitude and latitude as they are computed, their linear parts and periodic terms by the days from noon
-- of 1 January 2000.
use Rattle.book_model.specs.declared.moon_tables.TheConstants.{ECCENTRICITY_FACTOR, ELONGATION, FLATTENING}
use Rattle.book_model.specs.declared.moon_tables.TheConstants.{JUPITER_TERM, LATITUDE_ARGUMENT, LATITUDE_TERM}
use Rattle.book_model.specs.declared.moon_tables.TheConstants.{MILLIONTH, MOON_ANOMALY, MOON_LONGITUDE, SUN_ANOMALY}
use Rattle.book_model.specs.declared.moon_tables.TheConstants.{VENUS_TERM}
use Rattle.book_model.specs.declared.time_tables.TheConstants.{NOON_2000}
use Rattle.book_model.specs.declared.polynomial.Cubic.{Cubic}
use Rattle.book_model.specs.declared.polynomial.Quartic.{Quartic}
use Rattle.book_model.specs.numbers.Expressions.{Expression, argument, constant, add, subtract, multiply, scale, power}
use Rattle.book_model.specs.numbers.Expressions.{sine}
use Rattle.book_model.specs.numbers.Fractions.{fraction_of}
use Rattle.book_model.specs.sky.Latitude.{venus_by, flattening_by}
use Rattle.book_model.specs.sky.Moon.{LunarAngles}
use Rattle.book_model.specs.numbers.Polynomials.{quadratic_of}
use Rattle.book_model.specs.sky.Sun.{nutation_of}
use Rattle.sun_core.specs.Daily.{in_centuries, by_days, daily_angle_of, daily_term_of}

-- the higher terms of a quartic of the time in centuries; a fourth power is too large for an enclosure in early years,
-- and so the cube is scaled and then multiplied
abbrev pub higher_by : Quartic → Expression → Expression
higher_by p c =
    add (scale (fraction_of p.square) (power c 2)) (add (scale (fraction_of p.cube) (power c 3))
    (multiply (scale (fraction_of p.fourth) (power c 3)) c))

-- a quartic, its linear part by the days
unfoldable pub daily_quartic_of : Quartic → Expression → Expression
daily_quartic_of p x = add (add (constant (fraction_of p.constant)) (by_days p.linear x)) (higher_by p (in_centuries x))

-- a cubic, its linear part by the days
unfoldable pub daily_cubic_of : Cubic → Expression → Expression
daily_cubic_of p x =
    add (add (add (constant (fraction_of p.constant)) (by_days p.linear x))
    (scale (fraction_of p.square) (power (in_centuries x) 2)))
    (scale (fraction_of p.cube) (power (in_centuries x) 3))

-- the angles at a time
unfoldable pub daily_angles_of : Expression → LunarAngles
daily_angles_of x =
    record {
      elongation = daily_quartic_of ELONGATION x;
      sun_anomaly = daily_cubic_of SUN_ANOMALY x;
      moon_anomaly = daily_quartic_of MOON_ANOMALY x;
      latitude_argument = daily_quartic_of LATITUDE_ARGUMENT x;
      eccentricity = quadratic_of ECCENTRICITY_FACTOR (in_centuries x);
    }

-- what the flattening of the earth adds
unfoldable pub computed_flattening_of : Expression → Expression
computed_flattening_of x = scale (fraction_of FLATTENING) (sine
    (subtract (daily_quartic_of MOON_LONGITUDE x) (daily_quartic_of LATITUDE_ARGUMENT x)))

-- what the moon is ahead of its mean longitude, in millionths of a degree, by the sum of the terms
abbrev pub inequalities_by : (terms x : Expression) → Expression
inequalities_by t x = add (add (add t (daily_term_of x VENUS_TERM)) (daily_term_of x JUPITER_TERM))
    (computed_flattening_of x)

-- the moon's longitude, not reduced, by what the moon is ahead
abbrev pub longitude_by : (inequalities x : Expression) → Expression
longitude_by i x = add (add (daily_quartic_of MOON_LONGITUDE x) (scale (fraction_of MILLIONTH) i))
    (nutation_of (in_centuries x))

-- the days from noon of 1 January 2000 to a moment
abbrev pub days_from_2000 : Expression
days_from_2000 = subtract (argument 0) (constant (fraction_of NOON_2000))

-- the latitude in millionths of a degree, by the sum of the terms
abbrev pub millionths_by : (terms x : Expression) → Expression
millionths_by t x =
    add (add (add t (venus_by (daily_angle_of VENUS_TERM x) (daily_quartic_of LATITUDE_ARGUMENT x)))
    (flattening_by (daily_quartic_of MOON_LONGITUDE x) (daily_quartic_of MOON_ANOMALY x)))
    (daily_term_of x LATITUDE_TERM)

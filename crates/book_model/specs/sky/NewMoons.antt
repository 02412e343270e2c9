-- The new moons, each by its number. Angles are in degrees, moments in days.
-- Reingold and Dershowitz, Calendrical Calculations, chapter 14; Meeus, Astronomical Algorithms, chapter 49.
use Rattle.std.specs.Prelude.{ℤ, pos, ◌+ℤ◌, ◌-ℤ◌, ◌*ℤ◌}
use Rattle.exact_math.specs.Fraction.{Fraction, whole}
use Rattle.book_model.specs.declared.moon_tables.TheConstants.{ECCENTRICITY_FACTOR}
use Rattle.book_model.specs.declared.new_moon_tables.TheConstants.{MEAN_NEW_MOON, NEW_MOON_ANOMALY}
use Rattle.book_model.specs.declared.new_moon_tables.TheConstants.{NEW_MOON_LATITUDE_ARGUMENT, NEW_MOON_NODE}
use Rattle.book_model.specs.declared.new_moon_tables.TheConstants.{NEW_MOON_OF_2000, NEW_MOON_SUN_ANOMALY}
use Rattle.book_model.specs.declared.new_moon_tables.TheConstants.{NEW_MOON_TERMS, NEW_MOON_TERM, NODE_TERM}
use Rattle.book_model.specs.declared.new_moon_tables.TheConstants.{PLANET_TERMS}
use Rattle.book_model.specs.declared.moon_terms.NewMoonTerm.{NewMoonTerm}
use Rattle.book_model.specs.declared.moon_terms.PlanetTerm.{PlanetTerm}
use Rattle.book_model.specs.declared.time_tables.TheConstants.{NOON_2000}
use Rattle.book_model.specs.numbers.Expressions.{Expression, constant, add, scale, sine}
use Rattle.book_model.specs.numbers.Fractions.{fraction_of}
use Rattle.book_model.specs.numbers.Polynomials.{polynomial_at, quadratic_of, quadratic_term_of}
use Rattle.book_model.specs.programs.Programs.{Program}
use Rattle.book_model.specs.numbers.Terms.{terms_of, times_power}
use Rattle.book_model.specs.sky.Time.{from_dynamical_of}

-- k months in units of 1236.85 months, which are centuries
abbrev pub centuries_of_months : ℤ → Fraction
centuries_of_months k = record { num = pos 100 *ℤ k; below = 123684 }

-- the angles of which the terms of a new moon are made, and the factor of the eccentricity of the earth's orbit
pub record NewMoonAngles : Type 0 where
  pub sun_anomaly : Expression
  pub moon_anomaly : Expression
  pub latitude_argument : Expression
  pub eccentricity : Expression

-- the angles at a time
unfoldable pub new_moon_angles_of : Fraction → NewMoonAngles
new_moon_angles_of c =
    record {
      sun_anomaly = polynomial_at NEW_MOON_SUN_ANOMALY c;
      moon_anomaly = polynomial_at NEW_MOON_ANOMALY c;
      latitude_argument = polynomial_at NEW_MOON_LATITUDE_ARGUMENT c;
      eccentricity = quadratic_of ECCENTRICITY_FACTOR (constant c);
    }

-- x M + y M' + z F
unfoldable pub angle_of_new_moon_term : NewMoonAngles → NewMoonTerm → Expression
angle_of_new_moon_term a t =
    add (add (scale (whole t.sun_anomaly) a.sun_anomaly) (scale (whole t.moon_anomaly) a.moon_anomaly))
    (scale (whole t.latitude_argument) a.latitude_argument)

-- a number that counts hundred-thousandths, and one that counts millionths
abbrev pub hundred_thousandths : ℤ → Fraction
hundred_thousandths n = record { num = n; below = 99999 }

abbrev pub millionths : ℤ → Fraction
millionths n = record { num = n; below = 999999 }

-- v E^w sin(x M + y M' + z F)
unfoldable pub new_moon_term_of : NewMoonAngles → NewMoonTerm → Expression
new_moon_term_of a t = scale (hundred_thousandths t.size)
    (times_power a.eccentricity t.eccentricity (sine (angle_of_new_moon_term a t)))

-- what stands for a term past the last
abbrev pub no_new_moon_term : NewMoonTerm
no_new_moon_term = record {
  eccentricity = 0;
  sun_anomaly = pos 0;
  moon_anomaly = pos 0;
  latitude_argument = pos 0;
  size = pos 0;
}

-- the sum of the terms
unfoldable pub new_moon_terms_of : Fraction → Expression
new_moon_terms_of c = terms_of (new_moon_term_of (new_moon_angles_of c)) no_new_moon_term NEW_MOON_TERMS

-- what Venus adds
unfoldable pub venus_term_of : Fraction → Expression
venus_term_of c = quadratic_term_of NEW_MOON_TERM (constant c)

-- i + j k, in millionths of a degree
abbrev pub planet_angle : ℤ → PlanetTerm → ℤ
planet_angle k t = pos 10000 *ℤ t.phase +ℤ t.rate *ℤ k

-- l sin(i + j k)
unfoldable pub planet_term_of : ℤ → PlanetTerm → Expression
planet_term_of k t = scale (millionths t.size) (sine (constant (millionths (planet_angle k t))))

abbrev pub no_planet_term : PlanetTerm
no_planet_term = record { phase = pos 0; rate = pos 0; size = pos 0 }

-- the sum of these terms
unfoldable pub planet_terms_of : ℤ → Expression
planet_terms_of k = terms_of (planet_term_of k) no_planet_term PLANET_TERMS

-- the mean new moon, in dynamical time
unfoldable pub mean_new_moon_of : Fraction → Expression
mean_new_moon_of c = add (constant (fraction_of NOON_2000)) (polynomial_at MEAN_NEW_MOON c)

-- what the longitude of the node adds
unfoldable pub node_term_of : Fraction → Expression
node_term_of c = scale (fraction_of NODE_TERM) (sine (polynomial_at NEW_MOON_NODE c))

-- the new moon of the number k, counted from that of January 2000, in dynamical time
unfoldable pub dynamical_new_moon_of : ℤ → Expression
dynamical_new_moon_of k =
    add (add (add (add (mean_new_moon_of (centuries_of_months k)) (node_term_of (centuries_of_months k)))
    (new_moon_terms_of (centuries_of_months k)))
    (venus_term_of (centuries_of_months k))) (planet_terms_of k)

-- the new moon of a number, in universal time
unfoldable pub new_moon_of : ℤ → Program Expression
new_moon_of n = from_dynamical_of (dynamical_new_moon_of (n -ℤ NEW_MOON_OF_2000))

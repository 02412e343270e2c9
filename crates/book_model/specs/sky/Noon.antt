-- The equation of time, apparent time, true noon at Tehran and apparent midnight at Paris. Angles are in degrees,
-- moments and durations in days; c is in centuries. Reingold and Dershowitz, Calendrical Calculations, chapter 14; the
-- place of noon is that of chapter 15, the place of midnight that of chapter 17.
use Rattle.std.specs.Prelude.{◌≡◌, ℤ, pos, ◌+ℤ◌, ◌-ℤ◌, ◌≤ℤ◌, Some}
use Rattle.exact_math.specs.Fraction.{Fraction}
use Rattle.book_model.specs.declared.sun_tables.TheConstants.{DEGREE_IN_DAYS, ECCENTRICITY, FIVE_QUARTERS, FOUR}
use Rattle.book_model.specs.declared.sun_tables.TheConstants.{MEAN_SUN, MINUS_HALF, OBLIQUITY, PARIS_LONGITUDE}
use Rattle.book_model.specs.declared.sun_tables.TheConstants.{PERSIAN_NOON_LONGITUDE, SOLAR_ANOMALY, TWO}
use Rattle.book_model.specs.declared.tables.TheConstants.{HALF}
use Rattle.book_model.specs.numbers.Expressions.{Expression, World, value, integer, constant, add, subtract, multiply}
use Rattle.book_model.specs.numbers.Expressions.{divide, scale, power, minimum, maximum, pi, sine, cosine, tangent}
use Rattle.book_model.specs.numbers.Fractions.{fraction_of}
use Rattle.book_model.specs.numbers.Polynomials.{quadratic_of, cubic_of}
use Rattle.book_model.specs.programs.Programs.{Program, answer, bind, integers, cell_at, run, outcome, valued}
use Rattle.book_model.specs.sky.Sun.{estimate_of}
use Rattle.book_model.specs.sky.Time.{centuries_of}

-- the square of the tangent of half the obliquity of the ecliptic
unfoldable pub tilt_of : Expression → Expression
tilt_of c = power (tangent (scale (fraction_of HALF) (cubic_of OBLIQUITY c))) 2

-- y sin 2L, where L is the mean longitude of the sun: the reduction to the equator
unfoldable pub reduction_of : (y l : Expression) → Expression
reduction_of y l = multiply y (sine (scale (fraction_of TWO) l))

-- 2 e sin M, where e is the eccentricity and M the mean anomaly: the equation of the centre
unfoldable pub centre_of : (e m : Expression) → Expression
centre_of e m = scale (fraction_of TWO) (multiply e (sine m))

-- 4 e y sin M cos 2L: what both together bring about
unfoldable pub joint_of : (y e l m : Expression) → Expression
joint_of y e l m = scale (fraction_of FOUR)
    (multiply (multiply (multiply e y) (sine m)) (cosine (scale (fraction_of TWO) l)))

-- (y^2 / 2) sin 4L
unfoldable pub second_reduction_of : (y l : Expression) → Expression
second_reduction_of y l = scale (fraction_of HALF) (multiply (power y 2) (sine (scale (fraction_of FOUR) l)))

-- (5/4) e^2 sin 2M
unfoldable pub second_centre_of : (e m : Expression) → Expression
second_centre_of e m = scale (fraction_of FIVE_QUARTERS) (multiply (power e 2) (sine (scale (fraction_of TWO) m)))

-- the equation of time in radians
unfoldable pub radians_of : (y e l m : Expression) → Expression
radians_of y e l m =
    subtract (subtract (add (subtract (reduction_of y l) (centre_of e m)) (joint_of y e l m)) (second_reduction_of y l))
    (second_centre_of e m)

-- radians as a part of a day, which has 2 pi of them, and at most half a day
unfoldable pub part_of_day : Expression → Expression
part_of_day x = maximum (constant (fraction_of MINUS_HALF))
    (minimum (constant (fraction_of HALF)) (divide x (scale (fraction_of TWO) pi)))

-- the equation of time by the centuries: what apparent time is ahead of mean time
unfoldable pub equation_of : Expression → Expression
equation_of c = part_of_day (radians_of (tilt_of c) (quadratic_of ECCENTRICITY c) (quadratic_of MEAN_SUN c)
    (cubic_of SOLAR_ANOMALY c))

-- the equation of time at a moment of universal time
unfoldable pub equation_of_time_of : Expression → Program Expression
equation_of_time_of x = bind (centuries_of x) λ c. answer (equation_of c)

-- what local mean time is ahead of universal time at a longitude east of Greenwich
unfoldable pub ahead_of : Fraction → Expression
ahead_of l = scale (fraction_of DEGREE_IN_DAYS) (constant l)

-- the local mean time of a moment of apparent time at a longitude
unfoldable pub from_apparent_of : Fraction → Expression → Program Expression
from_apparent_of l x = bind (equation_of_time_of (subtract x (ahead_of l))) λ e. answer (subtract x e)

-- true noon of a day at Tehran, in universal time
unfoldable pub noon_of : ℤ → Program Expression
noon_of d =
    bind (from_apparent_of (fraction_of PERSIAN_NOON_LONGITUDE) (add (integer d) (constant (fraction_of HALF)))) λ x.
    answer (subtract x (ahead_of (fraction_of PERSIAN_NOON_LONGITUDE)))

-- midnight at the end of a day by apparent time at Paris, in universal time
unfoldable pub paris_midnight_of : ℤ → Program Expression
paris_midnight_of d =
    bind (from_apparent_of (fraction_of PARIS_LONGITUDE) (integer (d +ℤ pos 1))) λ x.
    answer (subtract x (ahead_of (fraction_of PARIS_LONGITUDE)))

-- the day q lies at most 600 days before the day d and at most 2 after it
pub record IsStart (d q : ℤ) : Type 0 where
  pub from : (d -ℤ pos 600) ≤ℤ q
  pub to : q ≤ℤ (d +ℤ pos 2)

-- the floor of what is estimated from the noon of a day lies near the day, where it is decided
pub record StartsNear : Type 0 where
  pub start : (w : World) (d q : ℤ) (l n s : Expression) → outcome (run w (noon_of d)) ≡ valued n
      → outcome (run w (estimate_of l n)) ≡ valued s
      → cell_at integers (value w s) ≡ Some q → IsStart d q

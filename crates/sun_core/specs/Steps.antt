-- The parts of the sun's longitude, and the order in which they are computed; parts of the equation of time and of
-- noon.
use Rattle.std.specs.Prelude.{ℤ, pos, ◌+ℤ◌}
use Rattle.book_model.specs.declared.sun_tables.TheConstants.{ABERRATION, MEAN_ABERRATION, SUN_AT_2000, SUN_RATE}
use Rattle.book_model.specs.declared.sun_tables.TheConstants.{SUN_TERMS}
use Rattle.book_model.specs.declared.tables.TheConstants.{HALF}
use Rattle.book_model.specs.numbers.Expressions.{Expression, integer, constant, add, subtract, scale, cosine}
use Rattle.book_model.specs.numbers.Fractions.{fraction_of, ten_millionths}
use Rattle.book_model.specs.sky.Noon.{reduction_of, centre_of, joint_of}
use Rattle.book_model.specs.numbers.Polynomials.{periodic_terms_of}
use Rattle.book_model.specs.sky.Sun.{sun_unit}
use Rattle.sun_core.specs.Daily.{by_days, daily_angle_of}

-- the mean longitude, not reduced
unfoldable pub mean_longitude_of : Expression → Expression
mean_longitude_of c = add (constant (fraction_of SUN_AT_2000)) (scale (fraction_of SUN_RATE) c)

-- what the sun is ahead of it
unfoldable pub periodic_of : Expression → Expression
periodic_of c = scale sun_unit (periodic_terms_of SUN_TERMS c)

-- the mean longitude by the days
unfoldable pub computed_mean_longitude_of : Expression → Expression
computed_mean_longitude_of x = add (constant (fraction_of SUN_AT_2000)) (by_days SUN_RATE x)

-- the aberration by the days
unfoldable pub computed_aberration_of : Expression → Expression
computed_aberration_of x = subtract (scale (ten_millionths ABERRATION.size) (cosine (daily_angle_of ABERRATION x)))
    (constant (fraction_of MEAN_ABERRATION))

-- the first three terms of the equation of time, in radians
unfoldable pub first_radians_of : (y e l m : Expression) → Expression
first_radians_of y e l m = add (subtract (reduction_of y l) (centre_of e m)) (joint_of y e l m)

-- the end of a day
unfoldable pub apparent_midnight_of : ℤ → Expression
apparent_midnight_of d = integer (d +ℤ pos 1)

-- the middle of a day
unfoldable pub apparent_noon_of : ℤ → Expression
apparent_noon_of d = add (integer d) (constant (fraction_of HALF))

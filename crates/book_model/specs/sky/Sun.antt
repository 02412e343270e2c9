-- The apparent longitude of the sun, the obliquity of the ecliptic, about when the sun was last at a longitude, and
-- when it is next at one.
-- Angles are in degrees, moments and durations in days; c is in centuries.
-- Reingold and Dershowitz, Calendrical Calculations, chapter 14.
use Rattle.std.specs.Prelude.{pos, ◌-◌, ◌^◌}
use Rattle.exact_math.specs.Fraction.{Fraction}
use Rattle.book_model.specs.declared.site.Site.TheVariants.{StepWrap, SunWrap}
use Rattle.book_model.specs.declared.sun_tables.TheConstants.{ABERRATION, DEGREE_OF_YEAR, MEAN_ABERRATION}
use Rattle.book_model.specs.declared.sun_tables.TheConstants.{NODE_NUTATION, OBLIQUITY, SOLAR_NUTATION, SUN_AT_2000}
use Rattle.book_model.specs.declared.sun_tables.TheConstants.{SUN_RATE, SUN_TERMS}
use Rattle.book_model.specs.programs.Bisection.{invert_of}
use Rattle.book_model.specs.numbers.Expressions.{Expression, integer, constant, add, subtract, scale, minimum, maximum}
use Rattle.book_model.specs.numbers.Expressions.{cosine, remainder}
use Rattle.book_model.specs.numbers.Fractions.{fraction_of, ten_millionths}
use Rattle.book_model.specs.numbers.Polynomials.{cubic_of, angle_of_term, quadratic_term_of, periodic_terms_of}
use Rattle.book_model.specs.programs.Programs.{Program, answer, cell, bind, multiples}
use Rattle.book_model.specs.sky.Time.{centuries_of}

-- the nutation in longitude
unfoldable pub nutation_of : Expression → Expression
nutation_of c = add (quadratic_term_of NODE_NUTATION c) (quadratic_term_of SOLAR_NUTATION c)

-- the aberration
unfoldable pub aberration_of : Expression → Expression
aberration_of c = subtract (scale (ten_millionths ABERRATION.size) (cosine (angle_of_term ABERRATION c)))
    (constant (fraction_of MEAN_ABERRATION))

-- the unit of the sun's periodic terms, 0.000005729577951308232
abbrev pub sun_unit : Fraction
sun_unit = record { num = pos 5729577951308232; below = 10 ^ 21 - 1 }

-- the sun's longitude, not reduced
unfoldable pub longitude_of : Expression → Expression
longitude_of c =
    add (add (add (add (constant (fraction_of SUN_AT_2000)) (scale (fraction_of SUN_RATE) c))
    (scale sun_unit (periodic_terms_of SUN_TERMS c))) (aberration_of c))
    (nutation_of c)

-- the sun's longitude at a moment of universal time
unfoldable pub sun_of : Expression → Program Expression
sun_of x =
    bind (centuries_of x) λ c.
    cell SunWrap (multiples 360) (longitude_of c) λ q.
    answer (remainder 360 (longitude_of c) q)

-- the obliquity of the ecliptic
unfoldable pub obliquity_of : Expression → Program Expression
obliquity_of c = answer (cubic_of OBLIQUITY c)

-- an angle, reduced to 0 .. 360
unfoldable pub reduced_of : Expression → Program Expression
reduced_of x = cell StepWrap (multiples 360) x λ q. answer (remainder 360 x q)

-- how far the sun is past the longitude l, from 0 up to 360
unfoldable pub past_of : Expression → Expression → Program Expression
past_of l x = bind (sun_of x) λ s. reduced_of (subtract s l)

-- how far it is past the longitude l, from -180 up to 180
unfoldable pub off_of : Expression → Expression → Program Expression
off_of l x =
    bind (sun_of x) λ s.
    bind (reduced_of (add (subtract s l) (integer (pos 180)))) λ p.
    answer (subtract p (integer (pos 180)))

-- the moment x less the time in which the mean sun moves on by p
unfoldable pub back_by : Expression → Expression → Expression
back_by p x = subtract x (scale (fraction_of DEGREE_OF_YEAR) p)

-- about when the sun was last at the longitude l, at or before a moment of universal time
unfoldable pub estimate_of : Expression → Expression → Program Expression
estimate_of l x =
    bind (past_of l x) λ p.
    bind (off_of l (back_by p x)) λ o.
    answer (minimum x (back_by o (back_by p x)))

-- how far the sun is before the longitude l, from 0 up to 360
unfoldable pub sun_short_of : (l x : Expression) → Program Expression
sun_short_of l x = bind (sun_of x) λ s. reduced_of (subtract l s)

-- the moment x and the time in which the mean sun moves on by p
unfoldable pub forward_by : (p x : Expression) → Expression
forward_by p x = add x (scale (fraction_of DEGREE_OF_YEAR) p)

-- when the sun is at a longitude: from five days before a moment to five days after it, but not before the moment x
unfoldable pub sun_about_of : (l x about : Expression) → Program Expression
sun_about_of l x t = invert_of sun_of l (maximum x (subtract t (integer (pos 5)))) (add t (integer (pos 5)))

-- when the sun is next at the longitude l, at or after a moment of universal time
unfoldable pub sun_from_of : (l x : Expression) → Program Expression
sun_from_of l x = bind (sun_short_of l x) λ p. sun_about_of l x (forward_by p x)

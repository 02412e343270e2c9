-- The altitude of the moon, by its longitude and latitude. Angles are in degrees. Reingold and Dershowitz, Calendrical
-- Calculations, chapter 14.
use Rattle.exact_math.specs.Fraction.{Fraction}
use Rattle.book_model.specs.numbers.Expressions.{Expression, constant, add, subtract, multiply, sine, cosine}

-- where the moon stands in the sky: the sine of its declination, and its part towards the east, by the obliquity of the
-- ecliptic, its longitude and its latitude
unfoldable pub north_of : (obliquity longitude latitude : Expression) → Expression
north_of o l b = add (multiply (sine b) (cosine o)) (multiply (multiply (cosine b) (sine o)) (sine l))

unfoldable pub east_of : (obliquity longitude latitude : Expression) → Expression
east_of o l b = subtract (multiply (multiply (cosine b) (sine l)) (cosine o)) (multiply (sine b) (sine o))

-- the part of it that lies in the plane of the meridian and the equator and the one across, at a local sidereal time
unfoldable pub towards_of : (sidereal obliquity longitude latitude : Expression) → Expression
towards_of t o l b = add (multiply (multiply (cosine t) (cosine b)) (cosine l)) (multiply (sine t) (east_of o l b))

-- the sine of the moon's altitude at a latitude of the ground
unfoldable pub altitude_sine_of : Fraction → (sidereal obliquity longitude latitude : Expression) → Expression
altitude_sine_of g t o l b = add (multiply (sine (constant g)) (north_of o l b))
    (multiply (cosine (constant g)) (towards_of t o l b))

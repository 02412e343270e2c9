-- The parallax and the moments of a day as they are computed: the same numbers as the definitions', in an order whose
-- parts an enclosure can hold.
use Rattle.std.specs.Prelude.{ℕ, ℤ, pos, ◌-ℤ◌, ◌*ℤ◌, ◌*◌, ◌-◌}
use Rattle.book_model.specs.Fraction.{Fraction}
use Rattle.book_model.specs.declared.frac.Frac.{Frac}
use Rattle.book_model.specs.declared.moon_tables.TheConstants.{MEAN_DISTANCE}
use Rattle.book_model.specs.numbers.Expressions.{Expression, integer, constant, add, subtract, divide, scale, cosine}
use Rattle.book_model.specs.numbers.Expressions.{arcsine}

-- the mean distance, in kilometres
abbrev pub mean_kilometres : Fraction
mean_kilometres = record { num = MEAN_DISTANCE; below = 999 }

-- a kilometre, in radii of the earth at the equator
abbrev pub kilometre_in_radii : Fraction
kilometre_in_radii = record { num = pos 100; below = 637813 }

-- the parallax at an altitude, by the distance in kilometres: these are too great a divisor, so the distance is taken
-- in radii
unfoldable pub computed_parallax_of : (altitude distance : Expression) → Expression
computed_parallax_of a d = arcsine (divide (cosine a) (scale kilometre_in_radii d))

-- the observed altitude
unfoldable pub computed_lifted_of : (altitude distance depression : Expression) → Expression
computed_lifted_of a d p = add (subtract a (computed_parallax_of a d)) p

-- how far the moment of a number of a day is from the day's number, in days, as one fraction: so many sixteenths of a
-- quarter of an hour, less the hours of the zone
abbrev pub shift_of : Frac → ℕ → Fraction
shift_of z i = record { num = pos (i * z.den) -ℤ pos 64 *ℤ z.num; below = 1536 * z.den - 1 }

-- that moment: where it is the day's number itself, it is exactly that
unfoldable pub computed_moment_of : Frac → ℤ → ℕ → Expression
computed_moment_of z d i = add (integer d) (constant (shift_of z i))

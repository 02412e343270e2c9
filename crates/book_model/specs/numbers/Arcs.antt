-- Arctangents in degrees, over closed pieces of the line, and by them arcsine, arccosine and the arctangent of two
-- numbers.
use Rattle.std.specs.Prelude.{ℕ, Bool, true, cond, ◌&&◌, pos, negsuc, Option, Some, None, List, [], ◌∷◌, map}
use Rattle.std.specs.List.{filter}
use lib.Signed.{lt_z}
use Rattle.exact_math.specs.Fraction.{Fraction, whole, plus, opposite, times, reciprocal, is_at_most, smaller, larger}
use Rattle.exact_math.specs.Interval.{Interval, everything, between, zero_fraction, one, minus_one, sum, difference}
use Rattle.exact_math.specs.Interval.{negative, product, quotient, power, hull, clamp}
use Rattle.book_model.specs.numbers.Series.{arctan_at, pi_at}
use Rattle.book_model.specs.numbers.Octants.{only}
use Rattle.book_model.specs.numbers.Roots.{root_of}

-- the arctangent, in radians, of a fraction from -1/2 to 1/2; of a negative one it is the negative of that of its
-- opposite
unfoldable pub arctan_series : ℕ → Fraction → Interval
arctan_series n x = cond (is_at_most zero_fraction x) (arctan_at n x) (negative (arctan_at n (opposite x)))

-- the degrees of a radian
unfoldable pub radian_at : ℕ → Interval
radian_at n = quotient (only (whole (pos 180))) (pi_at n)

-- the arctangent of a fraction from -1/2 to 1/2 in degrees
unfoldable pub arc_near : ℕ → Fraction → Interval
arc_near n x = product (arctan_series n x) (radian_at n)

-- from 1/2 to 3: 45 degrees and the arctangent of (x - 1) / (x + 1)
unfoldable pub arc_above : ℕ → Fraction → Interval
arc_above n x = sum (only (whole (pos 45))) (arc_near n (times (plus x minus_one) (reciprocal (plus x one))))

-- from 3 on: 90 degrees less the arctangent of 1 / x
unfoldable pub arc_beyond : ℕ → Fraction → Interval
arc_beyond n x = difference (only (whole (pos 90))) (arc_near n (reciprocal x))

abbrev pub half : Fraction
half = record { num = pos 1; below = 1 }

abbrev pub minus_half : Fraction
minus_half = record { num = negsuc 0; below = 1 }

-- the negatives of the arctangents of the opposites
abbrev pub mirrored : (ℕ → Fraction → Interval) → ℕ → Fraction → Interval
mirrored arc n x = negative (arc n (opposite x))

-- a closed piece of the line: where it begins and where it ends, if it does, and the arctangents of the fractions in it
pub record Piece : Type 0 where
  pub begin : Option Fraction
  pub end : Option Fraction
  pub arc : ℕ → Fraction → Interval

abbrev pub far_below : Piece
far_below = record { begin = None; end = Some (whole (negsuc 2)); arc = mirrored arc_beyond }

abbrev pub below : Piece
below = record { begin = Some (whole (negsuc 2)); end = Some minus_half; arc = mirrored arc_above }

abbrev pub near : Piece
near = record { begin = Some minus_half; end = Some half; arc = arc_near }

abbrev pub above : Piece
above = record { begin = Some half; end = Some (whole (pos 3)); arc = arc_above }

abbrev pub far_above : Piece
far_above = record { begin = Some (whole (pos 3)); end = None; arc = arc_beyond }

-- the pieces of which the line is made
abbrev pub pieces : List Piece
pieces = far_below ∷ below ∷ near ∷ above ∷ far_above ∷ []

-- what begins there, if anywhere, begins at or below b
abbrev pub begins_by : Option Fraction → Fraction → Bool
begins_by None b = true
begins_by (Some e) b = is_at_most e b

-- what ends there, if anywhere, ends at or above a
abbrev pub endpoints_from : Option Fraction → Fraction → Bool
endpoints_from None a = true
endpoints_from (Some e) a = is_at_most a e

-- the lower endpoint of the part of what begins at a
abbrev pub low_from : Option Fraction → Fraction → Fraction
low_from None a = a
low_from (Some e) a = larger e a

-- the upper endpoint of the part of what ends at b
abbrev pub high_to : Option Fraction → Fraction → Fraction
high_to None b = b
high_to (Some e) b = smaller e b

-- whether a .. b meets a piece
abbrev pub meets : (a b : Fraction) → Piece → Bool
meets a b p = begins_by p.begin b && endpoints_from p.end a

-- the arctangents at the two endpoints of the part of a .. b in a piece
unfoldable pub arc_of_part : ℕ → (a b : Fraction) → Piece → Interval
arc_of_part n a b p = hull (p.arc n (low_from p.begin a)) (p.arc n (high_to p.end b))

-- the same in each piece that it meets
abbrev pub arcs_over : ℕ → (a b : Fraction) → List Piece → List Interval
arcs_over n a b ps = map (arc_of_part n a b) (filter (meets a b) ps)

-- the hull of an interval and others
unfoldable pub hull_with : Interval → List Interval → Interval
hull_with i [] = i
hull_with i (j ∷ is) = hull i (hull_with j is)

-- the hull of intervals, and of none everything
unfoldable pub hull_of_all : List Interval → Interval
hull_of_all [] = everything
hull_of_all (i ∷ is) = hull_with i is

-- the arctangent of an interval in degrees: the hull over the pieces that it meets, each at the two endpoints of its
-- part
unfoldable pub arctangent_of : ℕ → Interval → Interval
arctangent_of n everything = everything
arctangent_of n (between a b) = hull_of_all (arcs_over n a b pieces)

-- from -180 to 180 degrees
abbrev pub all_around : Interval
all_around = between (whole (negsuc 179)) (whole (pos 180))

-- the angle of the direction that is y up and x to the right: 90 - arctan (x / y) above, -90 - arctan (x / y) below
unfoldable pub arctangent_of_two : ℕ → Interval → Interval → Interval
arctangent_of_two n everything x = all_around
arctangent_of_two n (between a b) everything = all_around
arctangent_of_two n (between a b) (between c d) =
    cond (lt_z (pos 0) a.num)
    (difference (only (whole (pos 90))) (arctangent_of n (quotient (between c d) (between a b))))
    (cond (lt_z b.num (pos 0))
    (difference (only (whole (negsuc 89))) (arctangent_of n (quotient (between c d) (between a b)))) all_around)

-- the root of 1 - x^2
abbrev pub other_side : ℕ → Interval → Interval
other_side n i = root_of n (difference (only one) (power i 2))

-- the arcsine in degrees, after clamping: 2 arctan (x / (1 + root (1 - x^2)))
unfoldable pub arcsine_of : ℕ → Interval → Interval
arcsine_of n i = product (arctangent_of n (quotient (clamp i) (sum (only one) (other_side n (clamp i)))))
    (only (whole (pos 2)))

-- the arccosine in degrees: 90 - arcsin x
unfoldable pub arccosine_of : ℕ → Interval → Interval
arccosine_of n i = difference (only (whole (pos 90))) (arcsine_of n i)

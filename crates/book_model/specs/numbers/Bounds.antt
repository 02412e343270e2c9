-- Bounds of enclosures, computed along expressions: a range of the endpoints, and a greatest width that is linear in
-- the width of a moment. An operation that isn't analysed yet promises nothing.
use Rattle.std.specs.Prelude.{ℕ, zero, suc, ◌+◌, ◌-◌, ◌*◌, ◌/◌, ◌^◌, max, Bool, true, false, cond, ℤ, pos, negsuc}
use Rattle.std.specs.Prelude.{neg_ℤ, unsigned_abs, ◌+ℤ◌, ◌-ℤ◌, ◌*ℤ◌, nat_le, nat_lt, int_le, ◌&&◌}
use Rattle.std.specs.Int.{int_min, int_max}
use lib.Signed.{le_z, lt_z}
use Rattle.exact_math.specs.Fraction.{Fraction, ◌≤F◌, whole, plus, floor_quotient}
use Rattle.exact_math.specs.Interval.{Interval, everything, between}
use Rattle.book_model.specs.numbers.Roots.{root_by_digits}
use Rattle.book_model.specs.numbers.Octants.{octant_of_turn}
use Rattle.book_model.specs.numbers.Expressions.{Expression, argument, integer, constant, add, subtract, multiply}
use Rattle.book_model.specs.numbers.Expressions.{divide, negate, scale, power, minimum, maximum, hull, clamp, widen, pi}
use Rattle.book_model.specs.numbers.Expressions.{sine, cosine, tangent, root, arctangent, arcsine, arccosine}
use Rattle.book_model.specs.numbers.Expressions.{arctangent_of_two, remainder}

-- The endpoints lie from low to high, in 2^-32. The width is at most slope * w + slack, where the width w of a moment
-- and slack are in units of 2^-64, and slope in units of 2^-40.
pub data Bound : Type 0 where
  unbounded : Bound
  bounded : (low high : ℤ) → (slope slack : ℕ) → Bound

-- what the operations of a scale bear: its unit, in 2^-64; the size below which numbers must stay, in 2^-32, and that
-- of products, of divisors and of what has a root; the size below which the numerators of constants must stay, and that
-- of the products of numbers, in 2^-32, with the numerators of factors
pub record Limits : Type 0 where
  pub unit : ℕ
  pub sizes : ℕ
  pub products : ℕ
  pub constants : ℕ
  pub factors : ℕ

-- the greatest size of a number from low to high
abbrev pub range_size : ℤ → ℤ → ℕ
range_size low high = max (unsigned_abs low) (unsigned_abs high)

-- n / (d + 1), rounded up
abbrev pub ceil_div : ℕ → ℕ → ℕ
ceil_div n d = (n + d) / suc d

-- the bound, where a test holds
abbrev pub limited : Bool → Bound → Bound
limited true b = b
limited false b = unbounded

-- a whole number
unfoldable pub integer_bound : Limits → ℤ → Bound
integer_bound l n = limited (nat_lt (unsigned_abs n * 2 ^ 32) l.sizes)
    (bounded (n *ℤ pos (2 ^ 32)) (n *ℤ pos (2 ^ 32)) 0 0)

-- the least and the greatest number in 2^-32 around a fraction
abbrev pub floor_at_32 : Fraction → ℤ
floor_at_32 f = floor_quotient (f.num *ℤ pos (2 ^ 32)) f.below

abbrev pub ceil_at_32 : Fraction → ℤ
ceil_at_32 f = neg_ℤ (floor_quotient (neg_ℤ (f.num *ℤ pos (2 ^ 32))) f.below)

-- a fraction: a unit between its two neighbours
unfoldable pub constant_bound : Limits → Fraction → Bound
constant_bound l f =
    limited (nat_lt (unsigned_abs f.num) l.constants && nat_lt (range_size (floor_at_32 f) (ceil_at_32 f)) l.sizes)
    (bounded (floor_at_32 f) (ceil_at_32 f) 0 l.unit)

-- a sum: the widths add up
unfoldable pub sum_bound : Limits → Bound → Bound → Bound
sum_bound l unbounded y = unbounded
sum_bound l (bounded a b s k) unbounded = unbounded
sum_bound l (bounded a b s k) (bounded c d t m) =
    limited (nat_lt (range_size (a +ℤ c) (b +ℤ d)) l.sizes) (bounded (a +ℤ c) (b +ℤ d) (s + t) (k + m))

-- n / (d + 1), rounded up, for whole numbers
abbrev pub ceil_quotient : ℤ → ℕ → ℤ
ceil_quotient n d = neg_ℤ (floor_quotient (neg_ℤ n) d)

-- times n / (d + 1), for a number from a to b of size A: its two endpoints, and the width times the size of n, and two
-- units
abbrev pub scaled_within : Limits → (n : ℤ) (d : ℕ) (a b : ℤ) (A N s k : ℕ) → Bound
scaled_within l n d a b A N s k =
    limited
    (nat_lt (A * N) l.factors
    && nat_lt (range_size (int_min (floor_quotient (a *ℤ n) d) (floor_quotient (b *ℤ n) d))
    (int_max (ceil_quotient (a *ℤ n) d) (ceil_quotient (b *ℤ n) d)))
    l.sizes)
    (bounded (int_min (floor_quotient (a *ℤ n) d) (floor_quotient (b *ℤ n) d))
    (int_max (ceil_quotient (a *ℤ n) d) (ceil_quotient (b *ℤ n) d))
    (ceil_div (s * N) d) (ceil_div (k * N) d + 2 * l.unit))

unfoldable pub scaled_bound : Limits → Fraction → Bound → Bound
scaled_bound l f unbounded = unbounded
scaled_bound l f (bounded a b s k) = scaled_within l f.num f.below a b (range_size a b) (unsigned_abs f.num) s k

-- a difference: the widths add up too
unfoldable pub difference_bound : Limits → Bound → Bound → Bound
difference_bound l unbounded y = unbounded
difference_bound l (bounded a b s k) unbounded = unbounded
difference_bound l (bounded a b s k) (bounded c d t m) =
    limited (nat_lt (range_size (a -ℤ d) (b -ℤ c)) l.sizes) (bounded (a -ℤ d) (b -ℤ c) (s + t) (k + m))

-- an opposite
unfoldable pub negated_bound : Limits → Bound → Bound
negated_bound l unbounded = unbounded
negated_bound l (bounded a b s k) = limited (nat_lt (range_size (neg_ℤ b) (neg_ℤ a)) l.sizes)
    (bounded (neg_ℤ b) (neg_ℤ a) s k)

-- the least and the greatest product of a number from a to b and one from c to d
abbrev pub least_corner : (a b c d : ℤ) → ℤ
least_corner a b c d = int_min (int_min (a *ℤ c) (a *ℤ d)) (int_min (b *ℤ c) (b *ℤ d))

abbrev pub greatest_corner : (a b c d : ℤ) → ℤ
greatest_corner a b c d = int_max (int_max (a *ℤ c) (a *ℤ d)) (int_max (b *ℤ c) (b *ℤ d))

-- products in units of 2^-64, in 2^-32, rounded down and up
abbrev pub floor_of_product : ℤ → ℤ
floor_of_product n = floor_quotient n (2 ^ 32 - 1)

abbrev pub ceil_of_product : ℤ → ℤ
ceil_of_product n = ceil_quotient n (2 ^ 32 - 1)

-- the product, from low to high, of numbers of sizes A and B: each width times the other's size, and two units
abbrev pub product_within : Limits → (low high : ℤ) (A B s k t m : ℕ) → Bound
product_within l low high A B s k t m =
    limited (nat_lt (range_size low high) l.sizes && nat_lt (ceil_div (A * B) (2 ^ 32 - 1)) l.products)
    (bounded low high (ceil_div (A * t + B * s) (2 ^ 32 - 1)) (ceil_div (A * m + B * k) (2 ^ 32 - 1) + 2 * l.unit))

unfoldable pub product_bound : Limits → Bound → Bound → Bound
product_bound l unbounded y = unbounded
product_bound l (bounded a b s k) unbounded = unbounded
product_bound l (bounded a b s k) (bounded c d t m) =
    product_within l (floor_of_product (least_corner a b c d)) (ceil_of_product (greatest_corner a b c d))
    (range_size a b) (range_size c d) s k t m

-- the least and the greatest square of a number from a to b
abbrev pub least_square : ℤ → ℤ → ℤ
least_square a b = cond (int_le (pos 0) a) (a *ℤ a) (cond (int_le b (pos 0)) (b *ℤ b) (pos 0))

abbrev pub greatest_square : ℤ → ℤ → ℤ
greatest_square a b = int_max (a *ℤ a) (b *ℤ b)

-- a square
abbrev pub square_bound : Limits → Bound → Bound
square_bound l unbounded = unbounded
square_bound l (bounded a b s k) =
    product_within l (floor_of_product (least_square a b)) (ceil_of_product (greatest_square a b)) (range_size a b)
    (range_size a b) s k s k

-- a power from the second on: the square, and then the product of the power before it and the number
unfoldable pub power_bound : Limits → Bound → ℕ → Bound
power_bound l x zero = unbounded
power_bound l x (suc zero) = unbounded
power_bound l x (suc (suc zero)) = square_bound l x
power_bound l x (suc (suc (suc k))) = product_bound l (power_bound l x (suc (suc k))) x

-- a / (c + 1) and a / (d + 1) of numbers in units of 2^-32: the lesser, rounded down, and the greater, rounded up
abbrev pub least_quotient : ℤ → (c d : ℕ) → ℤ
least_quotient a c d = int_min (floor_quotient (a *ℤ pos (2 ^ 32)) c) (floor_quotient (a *ℤ pos (2 ^ 32)) d)

abbrev pub greatest_quotient : ℤ → (c d : ℕ) → ℤ
greatest_quotient a c d = int_max (ceil_quotient (a *ℤ pos (2 ^ 32)) c) (ceil_quotient (a *ℤ pos (2 ^ 32)) d)

-- the quotient, from low to high, of a number of size A by one of size B that is at least g + 1
abbrev pub quotient_within : Limits → (low high : ℤ) (A B g s k t m : ℕ) → Bound
quotient_within l low high A B g s k t m =
    limited (nat_lt (ceil_div (A * 2 ^ 32) g) l.sizes && nat_lt B l.products)
    (bounded low high (ceil_div ((s * suc g + A * t) * 2 ^ 32) (suc g * suc g - 1))
    (ceil_div ((k * suc g + A * m) * 2 ^ 32) (suc g * suc g - 1) + 2 * l.unit))

unfoldable pub quotient_bound : Limits → Bound → Bound → Bound
quotient_bound l unbounded y = unbounded
quotient_bound l (bounded a b s k) unbounded = unbounded
quotient_bound l (bounded a b s k) (bounded (pos zero) d t m) = unbounded
quotient_bound l (bounded a b s k) (bounded (negsuc c) d t m) = unbounded
quotient_bound l (bounded a b s k) (bounded (pos (suc c)) d t m) =
    quotient_within l (least_quotient a c (unsigned_abs d - 1)) (greatest_quotient b c (unsigned_abs d - 1))
    (range_size a b) (range_size (pos (suc c)) d) c s k
    t m

-- the lesser of two: no wider than the wider of them
unfoldable pub minimum_bound : Bound → Bound → Bound
minimum_bound unbounded y = unbounded
minimum_bound (bounded a b s k) unbounded = unbounded
minimum_bound (bounded a b s k) (bounded c d t m) = bounded (int_min a c) (int_min b d) (max s t) (max k m)

-- what lies between two: no wider than their range
unfoldable pub hull_bound : Bound → Bound → Bound
hull_bound unbounded y = unbounded
hull_bound (bounded a b s k) unbounded = unbounded
hull_bound (bounded a b s k) (bounded c d t m) = bounded (int_min a c) (int_max b d) 0
    (unsigned_abs (int_max b d -ℤ int_min a c) * 2 ^ 32)

-- the size of a fraction in 2^-32, rounded up, and in 2^-64
abbrev pub margin_32 : Fraction → ℕ
margin_32 f = ceil_div (unsigned_abs f.num * 2 ^ 32) f.below

abbrev pub margin_64 : Fraction → ℕ
margin_64 f = ceil_div (unsigned_abs f.num * 2 ^ 64) f.below

-- moved outwards by the size of a fraction: twice that wider, and two units
unfoldable pub widen_bound : Limits → Fraction → Bound → Bound
widen_bound l f unbounded = unbounded
widen_bound l f (bounded a b s k) =
    limited (nat_lt (unsigned_abs f.num) l.constants && nat_lt
    (range_size (a -ℤ pos (margin_32 f)) (b +ℤ pos (margin_32 f))) l.sizes)
    (bounded (a -ℤ pos (margin_32 f)) (b +ℤ pos (margin_32 f)) s (k + (2 * margin_64 f + 2 * l.unit)))

-- the greater of two
unfoldable pub maximum_bound : Bound → Bound → Bound
maximum_bound unbounded y = unbounded
maximum_bound (bounded a b s k) unbounded = unbounded
maximum_bound (bounded a b s k) (bounded c d t m) = bounded (int_max a c) (int_max b d) (max s t) (max k m)

-- the root of a number, from g to h: a width over twice g, and two units; where g is 0, it is no wider than from there
-- to h
abbrev pub root_around : Limits → (g h s k : ℕ) → Bound
root_around l zero h s k = limited (nat_lt (range_size (pos 0) (pos h)) l.sizes)
    (bounded (pos 0) (pos h) 0 (h * 2 ^ 32))
root_around l (suc g) h s k =
    limited (nat_lt (range_size (pos (suc g)) (pos h)) l.sizes)
    (bounded (pos (suc g)) (pos h) (ceil_div (s * 2 ^ 31) (suc g - 1)) (ceil_div (k * 2 ^ 31) (suc g - 1) + 2 * l.unit))

-- for numbers of less than 96 bits; the root of 0 is 0
unfoldable pub root_bound : Limits → Bound → Bound
root_bound l unbounded = unbounded
root_bound l (bounded (negsuc a) b s k) = unbounded
root_bound l (bounded (pos a) (negsuc b) s k) = unbounded
root_bound l (bounded (pos a) (pos zero) s k) = limited (nat_lt a l.sizes) (bounded (pos 0) (pos 0) 0 0)
root_bound l (bounded (pos a) (pos (suc b)) s k) =
    limited (nat_lt a l.sizes && nat_lt (suc b) l.sizes && nat_lt (suc b) l.products)
    (root_around l (root_by_digits 48 (a * 2 ^ 32)) (suc (root_by_digits 48 (suc b * 2 ^ 32))) s k)

-- an endpoint, cut to -1..1
abbrev pub cut_32 : ℤ → ℤ
cut_32 a = int_max (int_min a (pos (2 ^ 32))) (neg_ℤ (pos (2 ^ 32)))

-- what is cut to -1..1 is no wider
unfoldable pub clamp_bound : Bound → Bound
clamp_bound unbounded = unbounded
clamp_bound (bounded a b s k) = bounded (cut_32 a) (cut_32 b) s k

-- less whole multiples of m
unfoldable pub remainder_bound : Limits → ℕ → Bound → Bound
remainder_bound l m unbounded = unbounded
remainder_bound l m (bounded a b s k) = limited (nat_lt (m * 2 ^ 32) l.sizes) (bounded (pos 0) (pos (m * 2 ^ 32)) s k)

-- endpoints in units of 2^-56, at the scale: two units more
unfoldable pub spanned_bound : Limits → Bound → Bound
spanned_bound l unbounded = unbounded
spanned_bound l (bounded a b s k) = limited (nat_lt (range_size a b) l.sizes) (bounded a b s (k + 2 * l.unit))

-- 45 degrees, in 2^-32
abbrev pub eighth_turn : ℕ
eighth_turn = 45 * 2 ^ 32

-- what values are at least and at most, in 2^-32
pub record Extent : Type 0 where
  pub least : ℤ
  pub greatest : ℤ

-- the opposites of such values
abbrev pub opposites : Extent → Extent
opposites e = record { least = neg_ℤ e.greatest; greatest = neg_ℤ e.least }

-- in the first octant a sine is at least 20 parts in 1279 of its degrees, a little more than a 64th, and at most a 57th
abbrev pub sine_from : ℕ → ℤ
sine_from n = pos (n * 20 / 1279) -ℤ pos 1

abbrev pub sine_to : ℕ → ℤ
sine_to n = pos (ceil_div n 56 + 1)

-- and a cosine at least 1 less the square of an 81st of its degrees
abbrev pub cosine_from : ℕ → ℤ
cosine_from n = pos (2 ^ 32) -ℤ pos (ceil_div (n * n) (6561 * 2 ^ 32 - 1) + 1)

-- the sine from f to t degrees into octant j of a turn
abbrev pub octant_extent : ℕ → (f t : ℕ) → Extent
octant_extent zero f t = record { least = sine_from f; greatest = sine_to t }
octant_extent (suc zero) f t = record { least = cosine_from (eighth_turn - f); greatest = pos (2 ^ 32) }
octant_extent (suc (suc zero)) f t = record { least = cosine_from t; greatest = pos (2 ^ 32) }
octant_extent (suc (suc (suc zero))) f t =
    record { least = sine_from (eighth_turn - t); greatest = sine_to (eighth_turn - f) }
octant_extent (suc (suc (suc (suc j)))) f t = opposites (octant_extent j f t)

-- which octant a number of degrees lies in
abbrev pub octant_at : ℤ → ℤ
octant_at a = floor_quotient a (eighth_turn - 1)

-- whether all degrees from a to b lie inside octant k
abbrev pub lie_inside : (k a b : ℤ) → Bool
lie_inside k a b = lt_z (k *ℤ pos eighth_turn) a && lt_z b (k *ℤ pos eighth_turn +ℤ pos eighth_turn)

-- the sine from a to b degrees inside octant k
abbrev pub inside_extent : (k a b : ℤ) → Extent
inside_extent k a b = octant_extent (octant_of_turn k) (unsigned_abs (a -ℤ k *ℤ pos eighth_turn))
    (unsigned_abs (b -ℤ k *ℤ pos eighth_turn))

-- the sine of degrees of at most this size is no further from 0 than a 57th of them
abbrev pub sine_near_none : ℕ → Extent
sine_near_none n = cond (nat_lt n eighth_turn) (record { least = neg_ℤ (sine_to n); greatest = sine_to n })
    (record { least = neg_ℤ (pos (2 ^ 32)); greatest = pos (2 ^ 32) })

-- the sine from a to b degrees
abbrev pub sine_extent : ℤ → ℤ → Extent
sine_extent a b = cond (lie_inside (octant_at a) a b) (inside_extent (octant_at a) a b)
    (sine_near_none (range_size a b))

-- the cosine of degrees of at most this size
abbrev pub cosine_near_none : ℕ → Extent
cosine_near_none n = record {
  least = cond (nat_lt n eighth_turn) (cosine_from n) (neg_ℤ (pos (2 ^ 32)));
  greatest = pos
      (2 ^ 32);
}

-- 90 degrees more
abbrev pub quarter_later : ℤ → ℤ
quarter_later a = a +ℤ pos (90 * 2 ^ 32)

-- the cosine from a to b degrees: the sine from 90 degrees more
abbrev pub cosine_extent : ℤ → ℤ → Extent
cosine_extent a b =
    cond (lie_inside (octant_at (quarter_later a)) (quarter_later a) (quarter_later b))
    (inside_extent (octant_at (quarter_later a)) (quarter_later a) (quarter_later b))
    (cosine_near_none (range_size a b))

-- a sine of these values, as endpoints in units of 2^-56: a 57th of the width, and 36 parts
abbrev pub spans_over : Extent → (s k : ℕ) → Bound
spans_over e s k = bounded e.least e.greatest (ceil_div s 56) (ceil_div k 56 + 36 * 2 ^ 8)

-- the sine of degrees
unfoldable pub sine_spans : Bound → Bound
sine_spans unbounded = unbounded
sine_spans (bounded a b s k) = limited (nat_lt (range_size a b) (2 ^ 95)) (spans_over (sine_extent a b) s k)

-- the cosine of degrees
unfoldable pub cosine_spans : Bound → Bound
cosine_spans unbounded = unbounded
cosine_spans (bounded a b s k) = limited (nat_lt (range_size a b) (2 ^ 95)) (spans_over (cosine_extent a b) s k)

-- pi between its neighbours in units of 2^-56
abbrev pub pi_spans : Bound
pi_spans = bounded (pos 13493037704) (pos 13493037705) 0 (2 ^ 8)

-- 57.3 times a number, rounded down; a radian has fewer degrees
abbrev pub at_radians : ℤ → ℤ
at_radians n = floor_quotient (n *ℤ pos 573) 9

-- where the arctangent of x is v degrees, that of a number from a on is at least v degrees, less 57.3 times what a
-- lacks of x
abbrev pub arc_from : (v x a : ℤ) → ℤ
arc_from v x a = v *ℤ pos (2 ^ 32) +ℤ int_min (pos 0) (at_radians (a -ℤ x *ℤ pos (2 ^ 32)))

-- the arctangent of a number from a on is at least -90, and what follows from those of -1, 0 and 1
abbrev pub least_arc : ℤ → ℤ
least_arc a = int_max (int_max (neg_ℤ (pos (90 * 2 ^ 32))) (arc_from (negsuc 44) (negsuc 0) a))
    (int_max (arc_from (pos 0) (pos 0) a) (arc_from (pos 45) (pos 1) a)) -ℤ pos 1

-- that of a number up to b is the opposite of that of its opposite
abbrev pub greatest_arc : ℤ → ℤ
greatest_arc b = neg_ℤ (least_arc (neg_ℤ b))

-- an arctangent, as endpoints in units of 2^-56: 57.3 times the width, and 64 parts
unfoldable pub arc_spans : Bound → Bound
arc_spans unbounded = unbounded
arc_spans (bounded a b s k) = bounded (least_arc a) (greatest_arc b) (ceil_div (s * 573) 9)
    (ceil_div (k * 573) 9 + 64 * 2 ^ 8)

unfoldable pub arctangent_bound : Limits → Bound → Bound
arctangent_bound l x = spanned_bound l (arc_spans x)

-- the tangent of half an arcsine: x / (1 + root (1 - x^2)), of what is cut to -1..1
unfoldable pub half_tangent_bound : Limits → Bound → Bound
half_tangent_bound l x = quotient_bound l (clamp_bound x) (sum_bound l (integer_bound l (pos 1))
    (root_bound l (difference_bound l (integer_bound l (pos 1)) (power_bound l (clamp_bound x) 2))))

-- twice the arctangent of that, and what it is off 90 degrees
unfoldable pub arcsine_bound : Limits → Bound → Bound
arcsine_bound l x = scaled_bound l (whole (pos 2)) (arctangent_bound l (half_tangent_bound l x))

unfoldable pub arccosine_bound : Limits → Bound → Bound
arccosine_bound l x = difference_bound l (integer_bound l (pos 90)) (arcsine_bound l x)

-- the width of a moment, and the bounds of the arguments
pub record Reach : Type 0 where
  pub width : ℕ
  pub bounds : ℕ → Bound

unfoldable pub bound_of : Limits → (ℕ → Bound) → Expression → Bound
bound_of l r (argument k) = r k
bound_of l r (integer n) = integer_bound l n
bound_of l r (constant f) = constant_bound l f
bound_of l r (add x y) = sum_bound l (bound_of l r x) (bound_of l r y)
bound_of l r (subtract x y) = difference_bound l (bound_of l r x) (bound_of l r y)
bound_of l r (multiply x y) = product_bound l (bound_of l r x) (bound_of l r y)
bound_of l r (divide x y) = quotient_bound l (bound_of l r x) (bound_of l r y)
bound_of l r (negate x) = negated_bound l (bound_of l r x)
bound_of l r (scale f x) = scaled_bound l f (bound_of l r x)
bound_of l r (power x k) = power_bound l (bound_of l r x) k
bound_of l r (minimum x y) = minimum_bound (bound_of l r x) (bound_of l r y)
bound_of l r (maximum x y) = maximum_bound (bound_of l r x) (bound_of l r y)
bound_of l r (hull x y) = hull_bound (bound_of l r x) (bound_of l r y)
bound_of l r (clamp x) = clamp_bound (bound_of l r x)
bound_of l r (widen f x) = widen_bound l f (bound_of l r x)
bound_of l r pi = spanned_bound l pi_spans
bound_of l r (sine x) = spanned_bound l (sine_spans (bound_of l r x))
bound_of l r (cosine x) = spanned_bound l (cosine_spans (bound_of l r x))
bound_of l r (tangent x) = quotient_bound l (spanned_bound l (sine_spans (bound_of l r x)))
    (spanned_bound l (cosine_spans (bound_of l r x)))
bound_of l r (root x) = root_bound l (bound_of l r x)
bound_of l r (arctangent x) = arctangent_bound l (bound_of l r x)
bound_of l r (arcsine x) = arcsine_bound l (bound_of l r x)
bound_of l r (arccosine x) = arccosine_bound l (bound_of l r x)
bound_of l r (arctangent_of_two y x) = unbounded
bound_of l r (remainder m x q) = remainder_bound l m (bound_of l r x)

abbrev pub at_32 : ℤ → Fraction
at_32 n = record { num = n; below = 2 ^ 32 - 1 }

-- (slope * w + slack * 2^40) / 2^104
abbrev pub breadth : (w slope slack : ℕ) → Fraction
breadth w s k = record { num = pos (s * w + k * 2 ^ 40); below = 2 ^ 104 - 1 }

-- two endpoints that keep a bound, for moments of width w
pub record Spans (low high : ℤ) (slope slack w : ℕ) (lo hi : Fraction) : Type 0 where
  pub ordered : lo ≤F hi
  pub above : at_32 low ≤F lo
  pub below : hi ≤F at_32 high
  pub close : hi ≤F plus lo (breadth w slope slack)

-- an interval keeps a bound; no bound says nothing
unfoldable pub IsNarrow : (w : ℕ) → Bound → Interval → Type 0
IsNarrow w unbounded i = Unit {0}
IsNarrow w (bounded a b s k) everything = ⊥
IsNarrow w (bounded a b s k) (between lo hi) = Spans a b s k w lo hi

-- the limits of endpoints in 64 bits at scale 2^-36
abbrev pub limits_36 : Limits
limits_36 = record { unit = 2 ^ 28; sizes = 2 ^ 58; products = 2 ^ 86; constants = 2 ^ 90; factors = 2 ^ 122 }

-- the limits at scale 2^-bits: those of a finer scale bear shorter numerators
abbrev pub limits_at : ℕ → Limits
limits_at bits = record {
  unit = 2 ^ (64 - bits);
  sizes = cond (nat_le bits 36) (2 ^ 58) (2 ^ 100);
  products = 2 ^ (158 - 2 * bits);
  constants = 2 ^ (126 - bits);
  factors = 2 ^ (158 - bits);
}

-- limits that no operation keeps
abbrev pub no_limits : Limits
no_limits = record { unit = 0; sizes = 0; products = 0; constants = 0; factors = 0 }

-- whether something is promised of the scale 2^-bits
abbrev pub is_scale : ℕ → Bool
is_scale bits = nat_le 36 bits && nat_le bits 56

-- what the scale 2^-bits bears; nothing is promised of other scales than these
unfoldable pub limits_of : ℕ → Limits
limits_of bits = cond (is_scale bits) (limits_at bits) no_limits

-- whether the first bound says at least what the second says
unfoldable pub implies : Bound → Bound → Bool
implies y unbounded = true
implies unbounded (bounded c d t m) = false
implies (bounded a b s k) (bounded c d t m) = le_z c a && le_z b d && nat_le s t && nat_le k m

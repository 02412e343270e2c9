-- The sine, the cosine and the tangent of an interval of degrees. Octant k is the closed interval from 45 k to
-- 45 (k + 1). Each octant that an interval meets gives the sines at the two endpoints of the common part, and the sine
-- is the hull of all these.
use Rattle.std.specs.Prelude.{ℕ, zero, suc, unsigned_abs, neg_ℤ, ℤ, pos, ◌+ℤ◌, ◌-ℤ◌, ◌*ℤ◌}
use Rattle.exact_math.specs.Fraction.{Fraction, whole, plus, opposite, times, smaller, larger, floor_quotient, floor}
use Rattle.exact_math.specs.Interval.{Interval, everything, between, sum, negative, product, quotient, hull, one}
use Rattle.exact_math.specs.Interval.{minus_one}
use Rattle.exact_math.specs.Sums.{one_over}
use Rattle.book_model.specs.numbers.Series.{sine_series, cosine_series, pi_at}

-- the interval of one fraction
abbrev pub only : Fraction → Interval
only x = between x x

-- an angle of r degrees in radians: r pi / 180
unfoldable pub radians : ℕ → Fraction → Interval
radians n r = product (only r) (product (pi_at n) (only (one_over 179)))

-- where octant k begins, in degrees; it ends where octant k + 1 begins
abbrev pub octant_edge : ℤ → Fraction
octant_edge k = times (whole (pos 45)) (whole k)

-- 45 - r
abbrev pub short_of : Fraction → Fraction
short_of r = plus (whole (pos 45)) (opposite r)

-- the sine at r degrees into octant j of a turn
unfoldable pub sine_into : ℕ → ℕ → Fraction → Interval
sine_into n zero r = sine_series n (radians n r)
sine_into n (suc zero) r = cosine_series n (radians n (short_of r))
sine_into n (suc (suc zero)) r = cosine_series n (radians n r)
sine_into n (suc (suc (suc zero))) r = sine_series n (radians n (short_of r))
sine_into n (suc (suc (suc (suc j)))) r = negative (sine_into n j r)

-- k mod 8
abbrev pub octant_of_turn : ℤ → ℕ
octant_of_turn k = unsigned_abs (k -ℤ (pos 8 *ℤ floor_quotient k 7))

-- the sine at x degrees, in octant k
unfoldable pub sine_at : ℕ → ℤ → Fraction → Interval
sine_at n k x = sine_into n (octant_of_turn k) (plus x (opposite (octant_edge k)))

-- the sines at the two endpoints of the part of a .. b in octant k
unfoldable pub sine_in : ℕ → Fraction → Fraction → ℤ → Interval
sine_in n a b k = hull (sine_at n k (larger (octant_edge k) a)) (sine_at n k (smaller (octant_edge (k +ℤ pos 1)) b))

-- the hull of what f gives for k, k + 1, .., k + m
unfoldable pub hull_from : (ℤ → Interval) → ℤ → ℕ → Interval
hull_from f k zero = f k
hull_from f k (suc m) = hull (f k) (hull_from f (k +ℤ pos 1) m)

-- the last octant that begins at or below b
unfoldable pub last_octant : Fraction → ℤ
last_octant b = floor (times b (one_over 44))

-- the first octant that ends at or above a
unfoldable pub first_octant : Fraction → ℤ
first_octant a = neg_ℤ (last_octant (opposite a)) -ℤ pos 1

-- the sine of an interval of degrees at depth n, for n from 1 on; at depth 0 all that is said is that it lies in -1 ..
-- 1
unfoldable pub sine_of_degrees : ℕ → Interval → Interval
sine_of_degrees zero i = between minus_one one
sine_of_degrees (suc n) everything = between minus_one one
sine_of_degrees (suc n) (between a b) = hull_from (sine_in (suc n) a b) (first_octant a)
    (unsigned_abs (last_octant b -ℤ first_octant a))

-- the cosine is the sine of the interval moved by 90
unfoldable pub cosine_of_degrees : ℕ → Interval → Interval
cosine_of_degrees n i = sine_of_degrees n (sum i (only (whole (pos 90))))

unfoldable pub tangent_of_degrees : ℕ → Interval → Interval
tangent_of_degrees n i = quotient (sine_of_degrees n i) (cosine_of_degrees n i)

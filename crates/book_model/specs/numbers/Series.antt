-- Sine, cosine and arctangent by their Taylor sums, and pi: at depth n, the sum up to the term of index n, widened
-- on both sides by twice the size of the next term.
use Rattle.std.specs.Prelude.{ℕ, zero, suc, Bool, false, cond, pos}
use Rattle.exact_math.specs.Fraction.{Fraction, times, power, is_at_most}
use Rattle.exact_math.specs.Interval.{Interval, everything, between, sum, negative, zero_fraction}
use Rattle.exact_math.specs.Sums.{lower, upper, one_over}

-- 1 / n!
unfoldable pub over_factorial : ℕ → Fraction
over_factorial zero = one_over 0
over_factorial (suc n) = times (over_factorial n) (one_over n)

-- 2 k
abbrev pub double : ℕ → ℕ
double zero = zero
double (suc k) = suc (suc (double k))

-- x ^ (2 k + 1) / (2 k + 1)!
unfoldable pub sine_term : Fraction → ℕ → Fraction
sine_term x k = times (power x (suc (double k))) (over_factorial (suc (double k)))

-- x ^ (2 k) / (2 k)!
unfoldable pub cosine_term : Fraction → ℕ → Fraction
cosine_term x k = times (power x (double k)) (over_factorial (double k))

-- x ^ (2 k + 1) / (2 k + 1)
unfoldable pub arctan_term : Fraction → ℕ → Fraction
arctan_term x k = times (power x (suc (double k))) (one_over (double k))

abbrev pub four_fifths : Fraction
four_fifths = record { num = pos 4; below = 4 }

-- a .. b lies within lo .. hi
abbrev pub is_inside : Fraction → Fraction → Fraction → Fraction → Bool
is_inside lo hi a b = cond (is_at_most lo a) (is_at_most b hi) false

-- the sine, which rises on 0 .. 4/5, of an interval in radians; of an interval that leaves 0 .. 4/5 nothing is said
unfoldable pub sine_series : ℕ → Interval → Interval
sine_series n everything = everything
sine_series n (between a b) = cond (is_inside zero_fraction four_fifths a b)
    (between (lower (sine_term a) n) (upper (sine_term b) n)) everything

-- the cosine, which falls there
unfoldable pub cosine_series : ℕ → Interval → Interval
cosine_series n everything = everything
cosine_series n (between a b) = cond (is_inside zero_fraction four_fifths a b)
    (between (lower (cosine_term b) n) (upper (cosine_term a) n)) everything

-- k times an interval
unfoldable pub scaled : ℕ → Interval → Interval
scaled k everything = everything
scaled k (between a b) = between (times (record { num = pos k; below = 0 }) a)
    (times (record { num = pos k; below = 0 }) b)

-- the arctangent of a fraction
abbrev pub arctan_at : ℕ → Fraction → Interval
arctan_at n x = between (lower (arctan_term x) n) (upper (arctan_term x) n)

-- 16 arctan (1/5) - 4 arctan (1/239), by Machin
unfoldable pub pi_at : ℕ → Interval
pi_at n = sum (scaled 16 (arctan_at n (one_over 4))) (negative (scaled 4 (arctan_at n (one_over 238))))

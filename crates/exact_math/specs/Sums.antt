-- Alternating sums of fractions, and their endpoints: what a series is known to lie between.
use Rattle.std.specs.Prelude.{ℕ, zero, suc, pos}
use Rattle.exact_math.specs.Fraction.{Fraction, plus, opposite, times, size}

-- t 0 - t 1 + t 2 - .., up to the term of index n
unfoldable pub alternating : (ℕ → Fraction) → ℕ → Fraction
alternating t zero = t 0
alternating t (suc n) = plus (t 0) (opposite (alternating (λ k. t (suc k)) n))

abbrev pub twice : Fraction → Fraction
twice a = times (record { num = pos 2; below = 0 }) a

-- that sum less twice the size of the next term
unfoldable pub lower : (ℕ → Fraction) → ℕ → Fraction
lower t n = plus (alternating t n) (opposite (twice (size (t (suc n)))))

-- that sum and twice the size of the next term
unfoldable pub upper : (ℕ → Fraction) → ℕ → Fraction
upper t n = plus (alternating t n) (twice (size (t (suc n))))

-- 1 / (n + 1)
abbrev pub one_over : ℕ → Fraction
one_over n = record { num = pos 1; below = n }

-- The factor of the first term in a sum whose terms are each the one before times u r, from the inside out:
-- 1 - u r 0 (1 - u r 1 (.. (1 +- e u r n))), with +e for an even n and -e for an odd one
unfoldable pub inner : Fraction → Fraction → (ℕ → Fraction) → ℕ → Fraction
inner e u r zero = plus (record { num = pos 1; below = 0 }) (times e (times u (r 0)))
inner e u r (suc n) = plus (record { num = pos 1; below = 0 })
    (opposite (times (times u (r 0)) (inner (opposite e) u (λ k. r (suc k)) n)))

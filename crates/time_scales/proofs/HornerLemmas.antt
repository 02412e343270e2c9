-- At one fraction, Horner's form and the sum of coefficients times powers have the same value. Both are written as one
-- fraction without an interval (`sum_to`, `nest_to`), since at an exact number each enclosure of the definition is that
-- number. Then, by induction on how many coefficients are left, the sum is that of the first terms and a power times
-- what the others nest to (`split`). The last lemmas are the loop's steps.
use Rattle.std.proofs.Common.{◌≡◌, ℕ, zero, suc, ◌+◌, ◌-◌, pos, refl, arith, add-one, List, [], ◌∷◌, length}
use Rattle.std.proofs.Common.{slice_index_or}
use Rattle.book_model.specs.Fraction.{Fraction, ◌≈◌, whole, plus, times, power}
use Rattle.book_model.specs.Interval.{Interval, ◌⊆◌}
use Rattle.book_model.proofs.FractionRing.{same_by}
use Rattle.book_model.proofs.Intervals.{within_trans}
use Rattle.book_model.proofs.Ring.{at, lit, ◌⊕◌, ◌⊗◌}
use Rattle.book_model.proofs.Same.{same_trans, le_of_same, ge_of_same}
use Rattle.book_model.specs.declared.frac.Frac.{Frac}
use Rattle.book_model.specs.sky.Correction.{no_fraction}
use Rattle.book_model.specs.numbers.Expressions.{World, value, exactly, integer, constant, add, scale}
use Rattle.book_model.specs.numbers.Fractions.{fraction_of}
use Rattle.book_model.specs.numbers.Polynomials.{polynomial_at_to, polynomial_at}
use Rattle.book_model.specs.numbers.Relations.{Within, Lies}
use Rattle.book_model.proofs.Exactly.{product_exactly, sum_exactly}
use Rattle.time_scales.specs.Horner.{horner_to, horner_of}

-- the coefficient of index n
abbrev coefficient : List Frac → ℕ → Fraction
coefficient cs n = fraction_of (slice_index_or cs n no_fraction)

-- the sum as one fraction
unfoldable sum_to : List Frac → Fraction → ℕ → Fraction
sum_to cs c zero = whole (pos 0)
sum_to cs c (suc n) = plus (sum_to cs c n) (times (power c n) (coefficient cs n))

-- Horner's form as one fraction
unfoldable nest_to : List Frac → Fraction → ℕ → Fraction
nest_to cs c zero = whole (pos 0)
nest_to cs c (suc k) = plus (times (nest_to cs c k) c) (coefficient cs (length cs - suc k))

sum_exact : (w : World) (cs : List Frac) (c : Fraction) (n : ℕ) → value w (polynomial_at_to cs c n) ≡ exactly
    (sum_to cs c n)
unfolding value polynomial_at_to sum_to
sum_exact w cs c zero = refl
sum_exact w cs c (suc n) = rw (sum_exact w cs c n, product_exactly (power c n) (coefficient cs n)) (sum_exactly _ _)

nest_exact : (w : World) (cs : List Frac) (c : Fraction) (k : ℕ) → value w (horner_to cs c k) ≡ exactly (nest_to cs c k)
unfolding value horner_to nest_to
nest_exact w cs c zero = refl
nest_exact w cs c (suc k) = rw (nest_exact w cs c k, product_exactly (nest_to cs c k) c) (sum_exactly _ _)

-- the next term joins what is nested
regrouped : (cs : List Frac) (c : Fraction) (k m : ℕ)
    → plus (sum_to cs c (suc m)) (times (power c (suc m)) (nest_to cs c k)) ≈ plus (sum_to cs c m)
    (times (power c m) (plus (times (nest_to cs c k) c) (coefficient cs m)))
unfolding sum_to power
regrouped cs c k m =
    same_by (sum_to cs c m ∷ power c m ∷ coefficient cs m ∷ c ∷ nest_to cs c k ∷ [])
    ((at 0 ⊕ at 1 ⊗ at 2) ⊕ (at 3 ⊗ at 1) ⊗ at 4)
    (at 0 ⊕ at 1 ⊗ (at 4 ⊗ at 3 ⊕ at 2)) refl

-- the sum is that of the first m terms and the m-th power times what the last k coefficients nest to
split : (cs : List Frac) (c : Fraction) (k m : ℕ) → k + m ≡ length cs → sum_to cs c (length cs) ≈ plus (sum_to cs c m)
    (times (power c m) (nest_to cs c k))
unfolding nest_to
split cs c zero m e =
    let f : length cs ≡ m = omega (arith, e) in
    rw f (same_by (sum_to cs c m ∷ power c m ∷ []) (at 0) (at 0 ⊕ at 1 ⊗ lit (pos 0)) refl)
split cs c (suc k) m e =
    let f : length cs - suc k ≡ m = omega (arith, e) in
    let g : k + suc m ≡ length cs = omega (arith, e) in
    rw f (same_trans (split cs c k (suc m) g) (regrouped cs c k m))

-- both forms are one number
same_number : (cs : List Frac) (c : Fraction) → sum_to cs c (length cs) ≈ nest_to cs c (length cs)
unfolding sum_to power
same_number cs c =
    same_trans (split cs c (length cs) 0 (omega arith))
    (same_by (nest_to cs c (length cs) ∷ []) (lit (pos 0) ⊕ lit (pos 1) ⊗ at 0) (at 0) refl)

pub values_same : (w : World) (cs : List Frac) (c : Fraction) → value w (polynomial_at cs c) ⊆ value w (horner_of cs c)
unfolding polynomial_at horner_of
values_same w cs c =
    let s = same_number cs c in
    rw (sum_exact w cs c (length cs), nest_exact w cs c (length cs))
    (record { endpoints = (ge_of_same s, le_of_same s) })

-- what holds Horner's form holds the polynomial
pub horner_holds : {E : Type 0} (shown : E → Interval) (w : World) (cs : List Frac) (c : Fraction) (e : E)
    → Within shown w (horner_of cs c) e
    → Within shown w (polynomial_at cs c) e
unfolding Lies
horner_holds shown w cs c e h = record { deep = h.deep; inside = within_trans (values_same w cs c) h.inside }

pub horner_none : (cs : List Frac) (c : Fraction) → horner_to cs c 0 ≡ integer (pos 0)
unfolding horner_to
horner_none cs c = refl

pub horner_more : (cs : List Frac) (c : Fraction) (k : ℕ) → horner_to cs c (k + 1)
    ≡ add (scale c (horner_to cs c k)) (constant (coefficient cs (length cs - 1 - k)))
unfolding horner_to
horner_more cs c k = let f : length cs - suc k ≡ length cs - 1 - k = omega arith in rw (add-one, f) refl

pub horner_all : (cs : List Frac) (c : Fraction) (k : ℕ) → k ≡ length cs → horner_of cs c ≡ horner_to cs c k
unfolding horner_of
horner_all cs c k e = rw e refl

pub ruleset horner = (horner_none, horner_more, horner_all, horner_holds)

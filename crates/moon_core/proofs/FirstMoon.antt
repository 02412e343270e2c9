-- The new moon of number 0, from which the months to a moment are counted: it lies within a year of day 0. Of each sine
-- it is enough to know that it lies in -1 .. 1.
use Rattle.std.specs.Prelude.{◌≡◌, ℕ, zero, suc, ◌&&◌, ℤ, pos, negsuc, neg_ℤ, Bool, true, false, List, slice_index_or}
use Rattle.std.specs.Prelude.{refl}
use Rattle.std.proofs.Common.{arith}
use Rattle.std.proofs.lemmas.Int.{ints}
use Rattle.book_model.specs.Fraction.{Fraction, whole, plus, times, smaller, larger, is_at_most}
use Rattle.book_model.specs.Fraction.{power as fraction_power}
use Rattle.book_model.specs.Interval.{Interval, everything, between, ◌⊆◌, sum, product, least, greatest}
use Rattle.book_model.specs.Interval.{power as interval_power, least_even}
use Rattle.book_model.proofs.Fractions.{at_most_true}
use Rattle.book_model.proofs.Intervals.{within_trans, within_refl}
use Rattle.book_model.specs.declared.new_moon_tables.TheConstants.{NEW_MOON_TERMS, PLANET_TERMS}
use Rattle.book_model.specs.numbers.Expressions.{Expression, World, value, subtract}
use Rattle.book_model.specs.numbers.Octants.{sine_of_degrees}
use Rattle.book_model.specs.numbers.Polynomials.{polynomial_at, polynomial_at_to, quadratic_of, quadratic_term_of}
use Rattle.book_model.specs.numbers.Ranges.{IsBetween}
use Rattle.book_model.specs.numbers.Terms.{terms_to, terms_of, times_power}
use Rattle.book_model.specs.programs.Programs.{run, valued, outcome}
use Rattle.book_model.specs.sky.NewMoons.{centuries_of_months, new_moon_angles_of, angle_of_new_moon_term}
use Rattle.book_model.specs.sky.NewMoons.{new_moon_term_of, no_new_moon_term, new_moon_terms_of, venus_term_of}
use Rattle.book_model.specs.sky.NewMoons.{planet_term_of, no_planet_term, planet_terms_of, mean_new_moon_of}
use Rattle.book_model.specs.sky.NewMoons.{node_term_of, dynamical_new_moon_of, new_moon_of}
use Rattle.book_model.specs.sky.Time.{correction_at, from_dynamical_of}
use Rattle.book_model.proofs.Estimates.{between_of_within, wider, difference_between, valued_same, sum_between}
use Rattle.book_model.proofs.FactRuns.{parts}
use Rattle.book_model.proofs.Values.{value_nested}
use Rattle.time_scales.proofs.Moments.{corrected_in_table}

-- a world of depth 0, where all that is said of a sine is that it lies in -1 .. 1
abbrev shallow : World → World
shallow w = record { depth = 0; arguments = w.arguments; proper = w.proper }

-- whether an interval lies between two whole numbers
unfoldable fits : ℤ → ℤ → Interval → Bool
fits lo hi everything = false
fits lo hi (between a b) = is_at_most (whole lo) a && is_at_most b (whole hi)

both : (p q : Bool) → (p && q) ≡ true → (p ≡ true) × (q ≡ true)
both true true e = (refl, refl)
both true false e = absurd (cc)
both false q e = absurd (cc)

fitted : (lo hi : ℤ) (i : Interval) → fits lo hi i ≡ true → i ⊆ between (whole lo) (whole hi)
unfolding fits
fitted lo hi everything e = absurd (cc)
fitted lo hi (between a b) e =
    let t = both (is_at_most (whole lo) a) (is_at_most b (whole hi)) e in
    record { endpoints = (at_most_true _ _ t.0, at_most_true _ _ t.1) }

by_shallow : (w : World) (lo hi : ℤ) (x : Expression) → fits lo hi (value (shallow w) x) ≡ true
    → IsBetween lo hi (value w x)
by_shallow w lo hi x e =
    between_of_within lo hi _
    (within_trans (value_nested w (shallow w) (record { deeper = omega arith; inner = λ k. within_refl _ }) x)
    (fitted lo hi _ e))

-- the time of that new moon
abbrev then : Fraction
then = centuries_of_months (negsuc 24723)

mean_fits : (w : World) → fits (pos 0) (pos 30) (value (shallow w) (mean_new_moon_of then)) ≡ true
unfolding fits value mean_new_moon_of polynomial_at polynomial_at_to sum product least greatest smaller larger times
    plus is_at_most fraction_power
mean_fits w = refl

node_fits : (w : World) → fits (negsuc 0) (pos 1) (value (shallow w) (node_term_of then)) ≡ true
unfolding fits value node_term_of polynomial_at polynomial_at_to sum product least greatest smaller larger times plus
    is_at_most fraction_power sine_of_degrees
node_fits w = refl

venus_fits : (w : World) → fits (negsuc 0) (pos 1) (value (shallow w) (venus_term_of then)) ≡ true
unfolding fits value venus_term_of quadratic_term_of quadratic_of sum product least greatest smaller larger times plus
    is_at_most interval_power sine_of_degrees
venus_fits w = refl

-- ---- sums over the rows of a table
rows_between : {R : Type 0} (w : World) (term : R → Expression) (none : R) (rows : List R) (n : ℕ)
    → ((k : ℕ) → IsBetween (negsuc 0) (pos 1) (value w (term (slice_index_or rows k none))))
    → IsBetween (neg_ℤ (pos n)) (pos n) (value w (terms_to term none rows n))
unfolding value terms_to
rows_between w term none rows zero h = (record { cross = omega (arith, ints) }, record { cross = omega (arith, ints) })
rows_between w term none rows (suc n) h =
    wider _ _ (neg_ℤ (pos (suc n))) (pos (suc n)) _ (omega (arith, ints)) (omega (arith, ints))
    (sum_between (neg_ℤ (pos n)) (pos n) (negsuc 0) (pos 1) _ _ (rows_between w term none rows n h) (h n))

moon_row : (w : World) (k : ℕ) → fits (negsuc 0) (pos 1) (value (shallow w)
    (new_moon_term_of (new_moon_angles_of then) (slice_index_or NEW_MOON_TERMS k no_new_moon_term))) ≡ true
unfolding fits value new_moon_term_of angle_of_new_moon_term new_moon_angles_of times_power quadratic_of polynomial_at
    polynomial_at_to sum product least
    greatest smaller larger times plus is_at_most fraction_power interval_power least_even sine_of_degrees
moon_row w zero = refl
moon_row w (suc zero) = refl
moon_row w (suc (suc zero)) = refl
moon_row w (suc (suc (suc zero))) = refl
moon_row w (suc (suc (suc (suc zero)))) = refl
moon_row w (suc (suc (suc (suc (suc zero))))) = refl
moon_row w (suc (suc (suc (suc (suc (suc zero)))))) = refl
moon_row w (suc (suc (suc (suc (suc (suc (suc zero))))))) = refl
moon_row w (suc (suc (suc (suc (suc (suc (suc (suc zero)))))))) = refl
moon_row w (suc (suc (suc (suc (suc (suc (suc (suc (suc zero))))))))) = refl
moon_row w (suc (suc (suc (suc (suc (suc (suc (suc (suc (suc zero)))))))))) = refl
moon_row w (suc (suc (suc (suc (suc (suc (suc (suc (suc (suc (suc zero))))))))))) = refl
moon_row w (suc (suc (suc (suc (suc (suc (suc (suc (suc (suc (suc (suc zero)))))))))))) = refl
moon_row w (suc (suc (suc (suc (suc (suc (suc (suc (suc (suc (suc (suc (suc zero))))))))))))) = refl
moon_row w (suc (suc (suc (suc (suc (suc (suc (suc (suc (suc (suc (suc (suc (suc zero)))))))))))))) = refl
moon_row w (suc (suc (suc (suc (suc (suc (suc (suc (suc (suc (suc (suc (suc (suc (suc zero))))))))))))))) = refl
moon_row w (suc (suc (suc (suc (suc (suc (suc (suc (suc (suc (suc (suc (suc (suc (suc (suc zero)))))))))))))))) = refl
moon_row w (suc (suc (suc (suc (suc (suc (suc (suc (suc (suc (suc (suc (suc (suc (suc (suc (suc zero))))))))))))))))) =
    refl
moon_row w (suc
    (suc (suc (suc (suc (suc (suc (suc (suc (suc (suc (suc (suc (suc (suc (suc (suc (suc zero)))))))))))))))))) = refl
moon_row w (suc
    (suc (suc (suc (suc (suc (suc (suc (suc (suc (suc (suc (suc (suc (suc (suc (suc (suc (suc zero))))))))))))))))))) =
    refl
moon_row w (suc
    (suc (suc (suc
    (suc (suc (suc (suc (suc (suc (suc (suc (suc (suc (suc (suc (suc (suc (suc (suc zero)))))))))))))))))))) = refl
moon_row w (suc
    (suc (suc (suc
    (suc (suc (suc (suc (suc (suc (suc (suc (suc (suc (suc (suc (suc (suc (suc (suc (suc zero))))))))))))))))))))) =
    refl
moon_row w (suc
    (suc (suc (suc
    (suc (suc (suc
    (suc (suc (suc (suc (suc (suc (suc (suc (suc (suc (suc (suc (suc (suc (suc zero)))))))))))))))))))))) = refl
moon_row w (suc
    (suc (suc (suc
    (suc (suc (suc
    (suc (suc (suc (suc (suc (suc (suc (suc (suc (suc (suc (suc (suc (suc (suc (suc zero))))))))))))))))))))))) = refl
moon_row w (suc (suc (suc (suc (suc (suc (suc (suc (suc (suc (suc
    (suc (suc (suc (suc (suc (suc (suc (suc (suc (suc (suc (suc (suc k)))))))))))))))))))))))) = refl

planet_row : (w : World) (k : ℕ)
    → fits (negsuc 0) (pos 1)
    (value (shallow w) (planet_term_of (negsuc 24723) (slice_index_or PLANET_TERMS k no_planet_term)))
    ≡ true
unfolding fits value planet_term_of product least greatest smaller larger times is_at_most sine_of_degrees
planet_row w zero = refl
planet_row w (suc zero) = refl
planet_row w (suc (suc zero)) = refl
planet_row w (suc (suc (suc zero))) = refl
planet_row w (suc (suc (suc (suc zero)))) = refl
planet_row w (suc (suc (suc (suc (suc zero))))) = refl
planet_row w (suc (suc (suc (suc (suc (suc zero)))))) = refl
planet_row w (suc (suc (suc (suc (suc (suc (suc zero))))))) = refl
planet_row w (suc (suc (suc (suc (suc (suc (suc (suc zero)))))))) = refl
planet_row w (suc (suc (suc (suc (suc (suc (suc (suc (suc zero))))))))) = refl
planet_row w (suc (suc (suc (suc (suc (suc (suc (suc (suc (suc zero)))))))))) = refl
planet_row w (suc (suc (suc (suc (suc (suc (suc (suc (suc (suc (suc zero))))))))))) = refl
planet_row w (suc (suc (suc (suc (suc (suc (suc (suc (suc (suc (suc (suc zero)))))))))))) = refl
planet_row w (suc (suc (suc (suc (suc (suc (suc (suc (suc (suc (suc (suc (suc k))))))))))))) = refl

dynamical_between : (w : World) → IsBetween (negsuc 39) (pos 70) (value w (dynamical_new_moon_of (negsuc 24723)))
unfolding value dynamical_new_moon_of new_moon_terms_of planet_terms_of terms_of
dynamical_between w =
    let m = by_shallow w (pos 0) (pos 30) (mean_new_moon_of then) (mean_fits w) in
    let n = by_shallow w (negsuc 0) (pos 1) (node_term_of then) (node_fits w) in
    let v = by_shallow w (negsuc 0) (pos 1) (venus_term_of then) (venus_fits w) in
    let t = rows_between w (new_moon_term_of (new_moon_angles_of then)) no_new_moon_term NEW_MOON_TERMS 24
    (λ k. by_shallow w (negsuc 0) (pos 1) _ (moon_row w k)) in
    let p = rows_between w (planet_term_of (negsuc 24723)) no_planet_term PLANET_TERMS 13
    (λ k. by_shallow w (negsuc 0) (pos 1) _ (planet_row w k)) in
    wider _ _ (negsuc 39) (pos 70) _ (omega (arith, ints)) (omega (arith, ints))
    (sum_between _ _ (neg_ℤ (pos 13)) (pos 13) _ _ (sum_between _ _ (negsuc 0) (pos 1) _ _
    (sum_between _ _ (neg_ℤ (pos 24)) (pos 24) _ _ (sum_between (pos 0) (pos 30) (negsuc 0) (pos 1) _ _ m n) t) v) p)

pub first_moon_between : (w : World) (m : Expression) → outcome (run w (new_moon_of (pos 0))) ≡ valued m
    → IsBetween (negsuc 299) (pos 300) (value w m)
unfolding new_moon_of from_dynamical_of value
first_moon_between w m e =
    let k = parts w (correction_at (dynamical_new_moon_of (negsuc 24723))) _ m e in
    let c = corrected_in_table w (dynamical_new_moon_of (negsuc 24723)) k.part k.first in
    let b = difference_between (negsuc 39) (pos 70) (negsuc 199) (pos 200) _ _ (dynamical_between w) c.1 in
    rw (← valued_same w (subtract (dynamical_new_moon_of (negsuc 24723)) k.part) m k.then)
    (wider _ _ (negsuc 299) (pos 300) _ (omega (arith, ints)) (omega (arith, ints)) b)

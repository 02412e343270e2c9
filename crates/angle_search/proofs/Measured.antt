-- How wide the bounds of a bisection are, and how close its undecided tests. The middle of two moments is at most two
-- units wider than the wider of them, by a bound that is computed once (`middle_reach`); over 64 iterations that is
-- 2^15 in 2^-64, which the caller adds once. The difference of an angle and the one that is sought has the sum of both
-- widths, whatever they are: so it goes by the bound of a difference and not by one computed for given widths.
use Rattle.std.specs.Prelude.{◌≡◌, ℕ, ◌+◌, ◌^◌, ◌≤◌, true, pos, neg_ℤ, refl, if◌then◌else◌, ◌==◌, Result, Ok, Err}
use Rattle.std.proofs.Common.{arith}
use Rattle.std.proofs.lemmas.Int.{ints}
use Rattle.book_model.specs.Interval.{Interval}
use Rattle.book_model.specs.declared.fail.Fail.{Fail}
use Rattle.book_model.specs.declared.tables.TheConstants.{HUNDRED_THOUSANDTH}
use Rattle.book_model.specs.numbers.Bounds.{Bound, unbounded, bounded, Limits, Reach, bound_of, implies, limits_at}
use Rattle.book_model.specs.numbers.Bounds.{limits_of, integer_bound, constant_bound, sum_bound, difference_bound}
use Rattle.book_model.specs.numbers.Bounds.{scaled_bound}
use Rattle.book_model.specs.numbers.Expressions.{Expression, argument, constant, integer, subtract}
use Rattle.book_model.specs.numbers.Fractions.{fraction_of}
use Rattle.book_model.specs.numbers.Relations.{Narrow, Keeps}
use Rattle.book_model.specs.programs.Bisection.{middle_of}
use Rattle.book_model.specs.programs.Widths.{IsAbout, IsMoment, IsUpTo, Measures}
use Rattle.book_model.proofs.Implying.{limits_within}
use Rattle.encl_core.proofs.Measuring.{measured, measured_argument, looser}

-- ---- the middle
abbrev any_moment : ℕ → Bound
any_moment k = bounded (neg_ℤ (pos (2 ^ 58))) (pos (2 ^ 58)) (2 ^ 40) 0

middle_reach : implies (bound_of (limits_at 56) any_moment (middle_of (argument 0) (argument 1)))
    (bounded (neg_ℤ (pos (2 ^ 58))) (pos (2 ^ 58)) (2 ^ 40) (2 ^ 9)) ≡ true
unfolding implies bound_of sum_bound scaled_bound middle_of
middle_reach = refl

-- the middle of two moments is two units wider than the wider of them
pub middle_within : {E : Type 0} (shown : E → Interval) (n v : ℕ) (x y m : E) → n ≡ 56 → IsMoment v (shown x)
    → IsMoment v (shown y)
    → ((r : Reach) (l u : Expression) → Narrow shown (limits_of n) r l x → Narrow shown (limits_of n) r u y
    → Narrow shown (limits_of n) r (middle_of l u) m)
    → IsMoment (v + 2 ^ 9) (shown m)
middle_within shown n v x y m e h k f =
    measured shown n v any_moment (middle_of (argument 0) (argument 1)) _ _ (2 ^ 40) (2 ^ 9) (v + 2 ^ 9) m e
    middle_reach (omega arith)
    (f (record { width = v; bounds = any_moment }) (argument 0) (argument 1)
    (measured_argument shown (limits_of n) _ _ v 0 x h)
    (measured_argument shown (limits_of n) _ _ v 1 y k))

-- ---- a difference, of widths of their own
abbrev of_two : (v u : ℕ) → ℕ → Bound
of_two v u k = if k == 0 then bounded (neg_ℤ (pos (2 ^ 58))) (pos (2 ^ 58)) 0 v else bounded (neg_ℤ (pos (2 ^ 58)))
    (pos (2 ^ 58)) 0 u

first_kept : {E : Type 0} (shown : E → Interval) (l : Limits) (v u : ℕ) (x : E) → IsAbout (2 ^ 58) v (shown x)
    → Narrow shown l (record { width = 0; bounds = of_two v u }) (argument 0) x
unfolding Keeps bound_of
first_kept shown l v u x h = record { kept = h.kept }

second_kept : {E : Type 0} (shown : E → Interval) (l : Limits) (v u : ℕ) (y : E) → IsAbout (2 ^ 58) u (shown y)
    → Narrow shown l (record { width = 0; bounds = of_two v u }) (argument 1) y
unfolding Keeps bound_of
second_kept shown l v u y h = record { kept = h.kept }

difference_kept : {E : Type 0} (shown : E → Interval) (n v u : ℕ) (d : E) → n ≡ 56
    → Narrow shown (limits_of n) (record { width = 0; bounds = of_two v u }) (subtract (argument 0) (argument 1)) d
    → IsAbout (2 ^ 59) (v + u) (shown d)
unfolding Keeps bound_of difference_bound
difference_kept shown n v u d e z =
    let l = limits_within n (omega arith) (omega arith) in
    record { kept = rw (l, e) at z.kept }

pub apart_within : {E : Type 0} (shown : E → Interval) (n v u : ℕ) (x y d : E) → n ≡ 56 → IsAbout (2 ^ 58) v (shown x)
    → IsAbout (2 ^ 58) u (shown y)
    → ((r : Reach) (p q : Expression) → Narrow shown (limits_of n) r p x → Narrow shown (limits_of n) r q y
    → Narrow shown (limits_of n) r (subtract p q) d)
    → IsAbout (2 ^ 90) (v + u) (shown d)
apart_within shown n v u x y d e h k f =
    looser _ _ _ _ (v + u) (v + u) _ (omega (arith, ints)) (omega (arith, ints)) (omega arith)
    (difference_kept shown n v u d e (f (record { width = 0; bounds = of_two v u }) (argument 0) (argument 1)
    (first_kept shown (limits_of n) v u x h)
    (second_kept shown (limits_of n) v u y k)))

-- ---- the numbers of the tests
near_reach : implies (bound_of (limits_at 56) (λ k. unbounded) (constant (fraction_of HUNDRED_THOUSANDTH)))
    (bounded (neg_ℤ (pos (2 ^ 90))) (pos (2 ^ 90)) 0 (2 ^ 8)) ≡ true
unfolding implies bound_of constant_bound
near_reach = refl

pub near_within : {E : Type 0} (shown : E → Interval) (n : ℕ) (x : E) → n ≡ 56
    → ((r : Reach) → Narrow shown (limits_of n) r (constant (fraction_of HUNDRED_THOUSANDTH)) x)
    → IsAbout (2 ^ 90) (2 ^ 8) (shown x)
near_within shown n x e f = measured shown n 0 (λ k. unbounded) (constant (fraction_of HUNDRED_THOUSANDTH)) _ _ 0
    (2 ^ 8) (2 ^ 8) x e near_reach (omega arith)
    (f (record { width = 0; bounds = λ k. unbounded }))

half_reach : implies (bound_of (limits_at 56) (λ k. unbounded) (integer (pos 180)))
    (bounded (neg_ℤ (pos (2 ^ 90))) (pos (2 ^ 90)) 0 0) ≡ true
unfolding implies bound_of integer_bound
half_reach = refl

pub half_within : {E : Type 0} (shown : E → Interval) (n : ℕ) (x : E) → n ≡ 56
    → ((r : Reach) → Narrow shown (limits_of n) r (integer (pos 180)) x)
    → IsAbout (2 ^ 90) 0 (shown x)
half_within shown n x e f = measured shown n 0 (λ k. unbounded) (integer (pos 180)) _ _ 0 0 0 x e half_reach
    (omega arith)
    (f (record { width = 0; bounds = λ k. unbounded }))

-- ---- what is said of less width, or of a nearer range
pub moment_wider : (v u : ℕ) (i : Interval) → v ≤ u → IsMoment v i → IsMoment u i
moment_wider v u i h k = looser _ _ _ _ v u i (omega (arith, ints)) (omega (arith, ints)) h k

pub turn_about : (v : ℕ) (i : Interval) → IsUpTo 360 v i → IsAbout (2 ^ 90) v i
turn_about v i h = looser _ _ _ _ v v i (omega (arith, ints)) (omega (arith, ints)) (omega arith) h

-- an angle of a turn, as an angle that grows with time
pub turn_is_angle : (v : ℕ) (i : Interval) → IsUpTo 360 v i → IsAbout (2 ^ 58) v i
turn_is_angle v i h = looser _ _ _ _ v v i (omega (arith, ints)) (omega (arith, ints)) (omega arith) h

pub turn_measured : {E : Type 0} (shown : E → Interval) (v : ℕ) (r : Result E Fail)
    → Measures (λ a. IsUpTo 360 v (shown a)) r
    → Measures (λ a. IsAbout (2 ^ 58) v (shown a)) r
turn_measured shown v (Ok a) h = turn_is_angle v (shown a) h
turn_measured shown v (Err f) h = h

-- the middle that is found
pub found_measured : {E : Type 0} (shown : E → Interval) (v : ℕ) (r : Result E Fail)
    → Measures (λ x. IsMoment (v + 2 ^ 15 + 2 ^ 9) (shown x)) r
    → Measures (λ x. IsMoment (v + 2 ^ 24) (shown x)) r
found_measured shown v (Ok x) h = moment_wider (v + 2 ^ 15 + 2 ^ 9) (v + 2 ^ 24) (shown x) (omega arith) h
found_measured shown v (Err f) h = h

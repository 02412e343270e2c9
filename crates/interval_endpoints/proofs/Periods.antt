-- The periods of endpoints at a scale. `cell_at` computes by the endpoints' floors, so that two equal periods, two
-- different ones and everything are three equations that unfold; endpoints that are moved down by a whole number are
-- compared by multiplying out.
use Rattle.interval_endpoints.specs.Scales.{Scale, coarse, fine, at_scale, unit, below}
use Rattle.std.proofs.Common.{◌≡◌, ℕ, ◌^◌, ◌-◌, refl, sym, ◌∙◌, arith, ℤ, ◌*ℤ◌, ◌-ℤ◌, Some, None}
use Rattle.std.proofs.lemmas.Int.{ints}
use Rattle.book_model.specs.Fraction.{whole, floor_quotient, plus, opposite}
use Rattle.book_model.specs.Interval.{Interval, everything, between, ◌⊆◌, sum, negative, difference}
use Rattle.book_model.proofs.Intervals.{within_trans}
use Rattle.book_model.specs.programs.Programs.{multiples, cell_of, cell_at}
use Rattle.interval_endpoints.specs.Rounding.{ShowsEndpoints}
use Rattle.interval_endpoints.proofs.Keeping.{kept_within}
use Rattle.interval_endpoints.proofs.Testing.{eq_yes, eq_no}

pub period_same : (scale : Scale) → (a b p q r : ℤ) (m : ℕ) → p ≡ floor_quotient (floor_quotient a ((below scale)))
    (m - 1) → q
    ≡ floor_quotient (floor_quotient b ((below scale))) (m - 1) → p ≡ q → r ≡ p
    → Some r ≡ cell_at (multiples m) (between (at_scale scale a) (at_scale scale b))
unfolding cell_at cell_of
period_same coarse a b p q r m e f h k =
    let t = eq_yes (floor_quotient (floor_quotient a (2 ^ 36 - 1)) (m - 1))
    (floor_quotient (floor_quotient b (2 ^ 36 - 1)) (m - 1)) (sym e ∙ h ∙ f) in
    rw (t, k, e) refl
period_same fine a b p q r m e f h k =
    let t = eq_yes (floor_quotient (floor_quotient a (2 ^ 56 - 1)) (m - 1))
    (floor_quotient (floor_quotient b (2 ^ 56 - 1)) (m - 1)) (sym e ∙ h ∙ f) in
    rw (t, k, e) refl

pub period_apart : (scale : Scale) → (a b p q : ℤ) (m : ℕ) → p ≡ floor_quotient (floor_quotient a ((below scale)))
    (m - 1) → q
    ≡ floor_quotient (floor_quotient b ((below scale))) (m - 1) → (p ≡ q → ⊥)
    → None ≡ cell_at (multiples m) (between (at_scale scale a) (at_scale scale b))
unfolding cell_at cell_of
period_apart coarse a b p q m e f n =
    let t = eq_no (floor_quotient (floor_quotient a (2 ^ 36 - 1)) (m - 1))
    (floor_quotient (floor_quotient b (2 ^ 36 - 1)) (m - 1)) (λ h. n (e ∙ h ∙ sym f)) in
    rw t refl
period_apart fine a b p q m e f n =
    let t = eq_no (floor_quotient (floor_quotient a (2 ^ 56 - 1)) (m - 1))
    (floor_quotient (floor_quotient b (2 ^ 56 - 1)) (m - 1)) (λ h. n (e ∙ h ∙ sym f)) in
    rw t refl

pub period_nowhere : (m : ℕ) → None ≡ cell_at (multiples m) everything
unfolding cell_at
period_nowhere m = refl

-- endpoints that are moved down by a whole number
pub lower_encloses : (scale : Scale) → (a b t lo hi : ℤ) (i : Interval) → lo ≡ a -ℤ (t *ℤ (unit scale))
    → hi ≡ b -ℤ (t *ℤ (unit scale))
    → ShowsEndpoints scale lo hi i → difference (between (at_scale scale a) (at_scale scale b))
    (between (whole t) (whole t)) ⊆ i
unfolding sum negative plus opposite
lower_encloses coarse a b t lo hi i e f h =
    within_trans
    (record { endpoints = (record { cross = omega (arith, ints) }, record { cross = omega (arith, ints) }) })
    (kept_within coarse lo hi i h)
lower_encloses fine a b t lo hi i e f h =
    within_trans
    (record { endpoints = (record { cross = omega (arith, ints) }, record { cross = omega (arith, ints) }) })
    (kept_within fine lo hi i h)

-- a period that is known is the one that the endpoints give
pub known_period : (q r : ℤ) (i : Interval) (m : ℕ) → Some q ≡ cell_at (multiples m) i
    → cell_at (multiples m) i ≡ Some r → r ≡ q
known_period q r i m e f = cc

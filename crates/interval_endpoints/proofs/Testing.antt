-- The tests at endpoints of a scale. A test on intervals computes by comparisons of the endpoints' fractions: over one
-- denominator these are the comparisons of whole numbers that the code makes, so each outcome is an equation that
-- unfolds. An undecided test has the bounds of the hull of its sides.
use Rattle.interval_endpoints.specs.Scales.{Scale, coarse, fine, at_scale, below, finer_units}
use Rattle.std.proofs.Common.{◌≡◌, ◌^◌, ◌-◌, refl, sym, ◌∙◌, arith, Bool, true, false, ℤ, pos, negsuc, ◌*ℤ◌, ◌≤ℤ◌, ◌<ℤ◌}
use Rattle.std.proofs.Common.{Some, None}
use Rattle.std.specs.Ordering.{int_eq}
use Rattle.std.proofs.lemmas.Int.{ints}
use Rattle.std.proofs.lemmas.Bool.Decides.{Decides-int_eq}
use lib.Signed.{le_z}
use Rattle.book_model.specs.Fraction.{Fraction, floor_quotient, is_at_most}
use Rattle.book_model.proofs.Same.{same_trans, same_of_le}
use Rattle.book_model.specs.Interval.{Interval, everything, between, ◌⊆◌, hull}
use Rattle.book_model.specs.programs.Programs.{integers, cell_of, cell_at, compare_at}
use Rattle.book_model.specs.programs.Leading.{AreEndpoints, bounds, no_bounds, IsUndecidedComparison}

-- the bounds of an undecided test, at its finer scale
pub endpoints_between : (scale : Scale) → (a b lo hi : ℤ) → lo ≡ a *ℤ (finer_units scale)
    → hi ≡ b *ℤ (finer_units scale)
    → AreEndpoints lo hi (between (at_scale scale a) (at_scale scale b))
endpoints_between coarse a b lo hi e f = bounds (record { cross = omega (arith, ints) })
    (record { cross = omega (arith, ints) })
endpoints_between fine a b lo hi e f = bounds (record { cross = omega (arith, ints) })
    (record { cross = omega (arith, ints) })

-- an undecided test of everything has no bounds
pub endpoints_everything : AreEndpoints (negsuc (2 ^ 127 - 1)) (pos (2 ^ 127 - 1)) everything
endpoints_everything = no_bounds (record { least = refl; greatest = refl })

-- the test of two equal numbers, and of two that differ
pub eq_yes : (p q : ℤ) → p ≡ q → int_eq p q ≡ true
eq_yes p q e = (Decides-int_eq p q).1 e

-- the test of two numbers that differ
pub eq_no : (p q : ℤ) → (p ≡ q → ⊥) → int_eq p q ≡ false
eq_no p q n = by_test _ refl
  where
    by_test : (t : Bool) → int_eq p q ≡ t → int_eq p q ≡ false
    by_test false e = e
    by_test true e = absurd (n ((Decides-int_eq p q).0 e))

-- both endpoints are in one cell
pub cell_same : (scale : Scale) → (a b p q r : ℤ) → p ≡ floor_quotient a ((below scale))
    → q ≡ floor_quotient b ((below scale)) → p ≡ q → r ≡ p → Some r
    ≡ cell_at integers (between (at_scale scale a) (at_scale scale b))
unfolding cell_at cell_of
cell_same coarse a b p q r e f h k =
    let t = eq_yes (floor_quotient a (2 ^ 36 - 1)) (floor_quotient b (2 ^ 36 - 1)) (sym e ∙ h ∙ f) in
    rw (t, k, e) refl
cell_same fine a b p q r e f h k =
    let t = eq_yes (floor_quotient a (2 ^ 56 - 1)) (floor_quotient b (2 ^ 56 - 1)) (sym e ∙ h ∙ f) in
    rw (t, k, e) refl

-- the endpoints are in different cells
pub cell_apart : (scale : Scale) → (a b p q : ℤ) → p ≡ floor_quotient a ((below scale))
    → q ≡ floor_quotient b ((below scale)) → (p ≡ q → ⊥) → None
    ≡ cell_at integers (between (at_scale scale a) (at_scale scale b))
unfolding cell_at cell_of
cell_apart coarse a b p q e f n =
    let t = eq_no (floor_quotient a (2 ^ 36 - 1)) (floor_quotient b (2 ^ 36 - 1)) (λ h. n (e ∙ h ∙ sym f)) in
    rw t refl
cell_apart fine a b p q e f n =
    let t = eq_no (floor_quotient a (2 ^ 56 - 1)) (floor_quotient b (2 ^ 56 - 1)) (λ h. n (e ∙ h ∙ sym f)) in
    rw t refl

-- everything is in no cell
pub cell_nowhere : None ≡ cell_at integers everything
unfolding cell_at
cell_nowhere = refl

-- ---- comparisons
-- the order of endpoints is that of their numbers
at_most_yes : (scale : Scale) → (p q : ℤ) → p ≤ℤ q → is_at_most (at_scale scale p) (at_scale scale q) ≡ true
unfolding is_at_most
at_most_yes coarse p q h = by_test _ refl
  where
    by_test : (t : Bool) → le_z (p *ℤ pos (2 ^ 36)) (q *ℤ pos (2 ^ 36)) ≡ t → t ≡ true
    by_test true e = refl
    by_test false e = absurd (omega (arith, ints))
at_most_yes fine p q h = by_test _ refl
  where
    by_test : (t : Bool) → le_z (p *ℤ pos (2 ^ 56)) (q *ℤ pos (2 ^ 56)) ≡ t → t ≡ true
    by_test true e = refl
    by_test false e = absurd (omega (arith, ints))

-- the same where it is not so
at_most_no : (scale : Scale) → (p q : ℤ) → q <ℤ p → is_at_most (at_scale scale p) (at_scale scale q) ≡ false
unfolding is_at_most
at_most_no coarse p q h = by_test _ refl
  where
    by_test : (t : Bool) → le_z (p *ℤ pos (2 ^ 36)) (q *ℤ pos (2 ^ 36)) ≡ t → t ≡ false
    by_test false e = refl
    by_test true e = absurd (omega (arith, ints))
at_most_no fine p q h = by_test _ refl
  where
    by_test : (t : Bool) → le_z (p *ℤ pos (2 ^ 56)) (q *ℤ pos (2 ^ 56)) ≡ t → t ≡ false
    by_test false e = refl
    by_test true e = absurd (omega (arith, ints))

-- the first endpoints are below the second
pub order_below : (scale : Scale) → (a b c d : ℤ) → b <ℤ c → Some true
    ≡ compare_at (between (at_scale scale a) (at_scale scale b)) (between (at_scale scale c) (at_scale scale d))
unfolding compare_at
order_below coarse a b c d h = rw (at_most_no coarse c b h) refl
order_below fine a b c d h = rw (at_most_no fine c b h) refl

-- the first endpoints are not below the second
pub order_above : (scale : Scale) → (a b c d : ℤ) → c ≤ℤ b → d ≤ℤ a → Some false
    ≡ compare_at (between (at_scale scale a) (at_scale scale b)) (between (at_scale scale c) (at_scale scale d))
unfolding compare_at
order_above coarse a b c d h k = rw (at_most_yes coarse c b h, at_most_yes coarse d a k) refl
order_above fine a b c d h k = rw (at_most_yes fine c b h, at_most_yes fine d a k) refl

-- the endpoints leave it undecided
pub order_open : (scale : Scale) → (a b c d : ℤ) → c ≤ℤ b → a <ℤ d → None
    ≡ compare_at (between (at_scale scale a) (at_scale scale b)) (between (at_scale scale c) (at_scale scale d))
unfolding compare_at
order_open coarse a b c d h k = rw (at_most_yes coarse c b h, at_most_no coarse d a k) refl
order_open fine a b c d h k = rw (at_most_yes fine c b h, at_most_no fine d a k) refl

-- everything is compared with nothing
pub order_first : (j : Interval) → None ≡ compare_at everything j
unfolding compare_at
order_first j = refl

-- nothing is compared with everything
pub order_second : (a b : Fraction) → None ≡ compare_at (between a b) everything
unfolding compare_at
order_second a b = refl

-- the endpoints of an interval are those of one that it holds and that holds it
endpoints_of_same : (lo hi : ℤ) (i j : Interval) → AreEndpoints lo hi i → i ⊆ j → j ⊆ i → AreEndpoints lo hi j
endpoints_of_same lo hi (between a b) (between c d) (bounds e f) h k =
    bounds (same_trans e (same_of_le k.endpoints.0 h.endpoints.0))
    (same_trans f (same_of_le h.endpoints.1 k.endpoints.1))
endpoints_of_same lo hi everything everything (no_bounds e) h k = no_bounds e
endpoints_of_same lo hi (between a b) everything (bounds e f) h k = absurd k.endpoints
endpoints_of_same lo hi everything (between c d) (no_bounds e) h k = absurd h.endpoints

-- an undecided comparison, by the hull of its sides
pub undecided_comparison : (i j k : Interval) (lo hi : ℤ) → None ≡ compare_at i j → AreEndpoints lo hi k → hull i j ⊆ k
    → k ⊆ hull i j → IsUndecidedComparison i j lo hi
undecided_comparison i j k lo hi e h there back = record {
  open_there = sym e;
  endpoints = endpoints_of_same lo hi k
      (hull i j) h back there;
}

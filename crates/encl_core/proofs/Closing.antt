-- The bounds of an undecided test are no further apart than its sides are wide. A test is undecided where its sides
-- meet, so that its bounds lie in the hull of what is measured: of a floor within one side, of a comparison within two
-- that overlap. Then the distance in units of 2^-56 is at most the measured width, and the site's row of the table says
-- how much is allowed.
use Rattle.std.specs.Prelude.{◌≡◌, ℕ, ◌+◌, ◌^◌, ◌≤◌, Bool, true, false, not, cond, ℤ, pos, neg_ℤ, ◌-ℤ◌, ◌*ℤ◌, ◌≤ℤ◌}
use Rattle.std.specs.Prelude.{Some, None, FitsSigned, refl}
use Rattle.std.proofs.Common.{arith}
use Rattle.std.specs.Int.{w64}
use Rattle.std.proofs.lemmas.Int.{ints}
use Rattle.book_model.specs.Fraction.{Fraction, ◌≤F◌, ◌≈◌, plus, floor, smaller, larger, is_at_most}
use Rattle.book_model.specs.Interval.{Interval, everything, between, ◌⊆◌, hull}
use Rattle.book_model.proofs.Floors.{floor_mono}
use Rattle.book_model.proofs.Fractions.{le_refl, le_trans, plus_mono, smaller_keeps, larger_keeps, at_most_true}
use Rattle.book_model.proofs.Fractions.{at_most_false}
use Rattle.book_model.proofs.Same.{le_of_same, ge_of_same, plus_assoc, plus_zero}
use Rattle.book_model.specs.numbers.Bounds.{IsNarrow, breadth, at_32}
use Rattle.book_model.specs.programs.Leading.{units_of_56, AreEndpoints, bounds, no_bounds, IsUndecidedCell}
use Rattle.book_model.specs.programs.Leading.{between_cells, too_far, IsUndecidedComparison}
use Rattle.book_model.specs.programs.Programs.{integers, cell_at, cell_of, compare_at, when}
use Rattle.book_model.specs.declared.site.Site.{Site}
use Rattle.book_model.specs.declared.fail.Undecided.{Undecided}
use Rattle.book_model.specs.declared.fail.Fail.TheVariants.{Undecided as undecided_at}
use Rattle.book_model.specs.programs.Widths.{IsWithin, IsAbout, IsClose, close_test, most_apart}

apart : (v : ℕ) (lo hi : ℤ) → units_of_56 hi ≤F plus (units_of_56 lo) (breadth 0 0 v) → ((hi -ℤ lo) *ℤ pos 256) ≤ℤ pos v
unfolding plus
apart v lo hi h = omega (arith, ints, h.cross)

-- the endpoints of an interval that lie within a width of each other
endpoints_of_close : (v : ℕ) (a b : Fraction) (lo hi : ℤ) → units_of_56 lo ≈ a → units_of_56 hi ≈ b
    → b ≤F plus a (breadth 0 0 v) → ((hi -ℤ lo) *ℤ pos 256) ≤ℤ pos v
endpoints_of_close v a b lo hi l r h =
    apart v lo hi (le_trans _ _ _ (le_of_same r) (le_trans _ _ _ h (plus_mono _ _ _ _ (ge_of_same l) (le_refl _))))

pub endpoints_apart : (low high : ℤ) (v : ℕ) (lo hi : ℤ) (i : Interval) → IsWithin low high v i → AreEndpoints lo hi i
    → ((hi -ℤ lo) *ℤ pos 256) ≤ℤ pos v
unfolding IsNarrow
endpoints_apart low high v lo hi everything h (no_bounds e) = absurd h.kept
endpoints_apart low high v lo hi (between a b) h (bounds l r) = endpoints_of_close v a b lo hi l r h.kept.close

-- two numbers within an interval
pub inner_apart : (low high : ℤ) (v : ℕ) (lo hi : ℤ) (i : Interval) → IsWithin low high v i
    → between (units_of_56 lo) (units_of_56 hi) ⊆ i
    → ((hi -ℤ lo) *ℤ pos 256) ≤ℤ pos v
unfolding IsNarrow
inner_apart low high v lo hi everything h k = absurd h.kept
inner_apart low high v lo hi (between a b) h k =
    apart v lo hi
    (le_trans _ _ _ k.endpoints.1 (le_trans _ _ _ h.kept.close (plus_mono _ _ _ _ k.endpoints.0 (le_refl _))))

-- nothing that is measured is everything
pub not_all : (low high : ℤ) (v : ℕ) (i : Interval) → i ≡ everything → IsWithin low high v i → ⊥
unfolding IsNarrow
not_all low high v everything e h = h.kept
not_all low high v (between a b) e h = absurd (cc)

-- ---- floors
when_some : {A : Type 0} (b : Bool) (a q : A) → when b a ≡ Some q → a ≡ q
when_some true a q e = cc
when_some false a q e = absurd (cc)

floor_32_low : (a : ℤ) → neg_ℤ (pos (2 ^ 90)) ≤ℤ a → neg_ℤ (pos (2 ^ 60)) ≤ℤ floor (at_32 a)
floor_32_low a h = floor_mono (record { num = neg_ℤ (pos (2 ^ 60)); below = 0 }) (at_32 a)
    (record { cross = omega (arith, ints) })

floor_32_high : (b : ℤ) → b ≤ℤ pos (2 ^ 90) → floor (at_32 b) ≤ℤ pos (2 ^ 60)
floor_32_high b h = floor_mono (at_32 b) (record { num = pos (2 ^ 60); below = 0 })
    (record { cross = omega (arith, ints) })

floor_fits : (v : ℕ) (i : Interval) (q : ℤ) → IsAbout (2 ^ 90) v i → cell_at integers i ≡ Some q → FitsSigned w64 q
unfolding cell_at cell_of IsNarrow
floor_fits v everything q h e = absurd h.kept
floor_fits v (between a b) q h e =
    let s : floor a ≡ q = when_some _ _ q e in
    let l = floor_mono _ _ h.kept.above in
    let u = floor_mono _ _ (le_trans _ _ _ h.kept.ordered h.kept.below) in
    let p = floor_32_low (neg_ℤ (pos (2 ^ 90))) (omega (arith, ints)) in
    let r = floor_32_high (pos (2 ^ 90)) (omega (arith, ints)) in
    omega (arith, ints)

pub floor_apart : (v : ℕ) (lo hi : ℤ) (i : Interval) → IsAbout (2 ^ 90) v i → IsUndecidedCell integers i lo hi
    → ((hi -ℤ lo) *ℤ pos 256) ≤ℤ pos v
floor_apart v lo hi i h (between_cells e k) = endpoints_apart _ _ v lo hi i h k
floor_apart v lo hi i h (too_far q e f b) = absurd (f (floor_fits v i q h e))

-- ---- comparisons
-- what an undecided comparison says of the endpoints: the two intervals meet
pub record Meet (a b c d : Fraction) : Type 0 where
  pub first : c ≤F b
  pub second : a ≤F d

open_says : (a b c d : Fraction) → compare_at (between a b) (between c d) ≡ None → Meet a b c d
unfolding compare_at
open_says a b c d e = by_test (is_at_most c b) refl (is_at_most d a) refl e
  where
    by_test : (x : Bool) → is_at_most c b ≡ x → (y : Bool) → is_at_most d a ≡ y
        → cond (not x) (Some true) (when y false) ≡ None → Meet a b c d
    by_test true p false q e = record { first = at_most_true c b p; second = at_most_false d a q }
    by_test true p true q e = absurd (cc)
    by_test false p y q e = absurd (cc)

both_breadths : (v u : ℕ) → plus (breadth 0 0 v) (breadth 0 0 u) ≤F breadth 0 0 (v + u)
unfolding plus
both_breadths v u = record { cross = omega (arith, ints) }

no_less : (u : ℕ) (a : Fraction) → a ≤F plus a (breadth 0 0 u)
no_less u a = le_trans _ _ _ (ge_of_same (plus_zero a))
    (plus_mono _ _ _ _ (le_refl a) (record { cross = omega (arith, ints) }))

in_all : (v u : ℕ) (a z : Fraction) → z ≤F plus (plus a (breadth 0 0 v)) (breadth 0 0 u)
    → z ≤F plus a (breadth 0 0 (v + u))
in_all v u a z h = le_trans _ _ _ h (le_trans _ _ _ (le_of_same (plus_assoc a (breadth 0 0 v) (breadth 0 0 u)))
    (plus_mono _ _ _ _ (le_refl a) (both_breadths v u)))

swapped : (v u : ℕ) (a z : Fraction) → z ≤F plus a (breadth 0 0 (u + v)) → z ≤F plus a (breadth 0 0 (v + u))
swapped v u a z h = le_trans _ _ _ h (plus_mono _ _ _ _ (le_refl a) (record { cross = omega (arith, ints) }))

-- the hull of two that meet is no wider than both
hull_close : (v u : ℕ) (a b c d : Fraction) → Meet a b c d → b ≤F plus a (breadth 0 0 v) → d ≤F plus c (breadth 0 0 u)
    → larger b d ≤F plus (smaller a c) (breadth 0 0 (v + u))
hull_close v u a b c d m h k =
    larger_keeps (λ z. z ≤F plus (smaller a c) (breadth 0 0 (v + u))) b d
    (smaller_keeps (λ z. b ≤F plus z (breadth 0 0 (v + u))) a c
    (in_all v u a b (le_trans _ _ _ h (no_less u _)))
    (swapped v u c b (in_all u v c b (le_trans _ _ _ h (plus_mono _ _ _ _ (le_trans _ _ _ m.second k) (le_refl _))))))
    (smaller_keeps (λ z. d ≤F plus z (breadth 0 0 (v + u))) a c
    (in_all v u a d (le_trans _ _ _ k (plus_mono _ _ _ _ (le_trans _ _ _ m.first h) (le_refl _))))
    (swapped v u c d (in_all u v c d (le_trans _ _ _ k (no_less v _)))))

pub hull_apart : (low high : ℤ) (v : ℕ) (bottom top : ℤ) (u : ℕ) (lo hi : ℤ) (i j : Interval) → IsWithin low high v i
    → IsWithin bottom top u j
    → IsUndecidedComparison i j lo hi → ((hi -ℤ lo) *ℤ pos 256) ≤ℤ pos (v + u)
unfolding IsNarrow hull
hull_apart low high v bottom top u lo hi everything j h k o = absurd h.kept
hull_apart low high v bottom top u lo hi (between a b) everything h k o = absurd k.kept
hull_apart low high v bottom top u lo hi (between a b) (between c d) h k o =
    of_endpoints o.endpoints (hull_close v u a b c d (open_says a b c d o.open_there) h.kept.close k.kept.close)
  where
    of_endpoints : AreEndpoints lo hi (between (smaller a c) (larger b d))
        → larger b d ≤F plus (smaller a c) (breadth 0 0 (v + u)) → ((hi -ℤ lo) *ℤ pos 256)
        ≤ℤ pos (v + u)
    of_endpoints (bounds l r) z = endpoints_of_close (v + u) _ _ lo hi l r z

-- ---- failures
pub close_endpoints : (u : Undecided) (s : Site) (v : ℕ) → u.site ≡ s → v ≤ most_apart s
    → ((u.hi -ℤ u.lo) *ℤ pos 256) ≤ℤ pos v → IsClose (undecided_at u)
close_endpoints u s v e l h = close_test (rw e (omega (arith, ints)))

-- The bound of ΔT that is about to be rounded, and what it says of an undecided test and of a value. That it is kept is
-- computed for each row of the table of ΔT at each scale from 2^-36 to 2^-56, as one closed term, and read off for a
-- year and a scale. A number that keeps it has a floor that a fact may have, and bounds no further apart than it is
-- wide.
use Rattle.std.specs.Prelude.{◌≡◌, ℕ, ◌+◌, ◌-◌, ◌*◌, ◌^◌, ◌≤◌, ℤ, pos, negsuc, ◌-ℤ◌, ◌*ℤ◌, ◌≤ℤ◌, Bool, true, false}
use Rattle.std.specs.Prelude.{Option, Some, None, IfSome, FitsSigned, refl}
use Rattle.std.specs.List.{list_all}
use Rattle.std.specs.Option.{option_map_or}
use Rattle.std.proofs.Common.{arith, subst}
use Rattle.book_model.proofs.Implying.{settled_at}
use Rattle.std.proofs.lemmas.Int.{ints}
use Rattle.std.specs.Int.{w64}
use Rattle.book_model.specs.Fraction.{Fraction, ◌≤F◌, ◌≈◌, plus, floor}
use Rattle.book_model.specs.Interval.{Interval, everything, between}
use Rattle.book_model.proofs.Fractions.{le_trans, le_refl, plus_mono}
use Rattle.book_model.proofs.Floors.{floor_mono}
use Rattle.book_model.proofs.Same.{le_of_same, ge_of_same}
use Rattle.book_model.specs.declared.fail.Fail.{Fail}
use Rattle.book_model.specs.declared.fail.Fail.TheVariants.{Undecided as undecided_at, Void}
use Rattle.book_model.specs.declared.site.Site.TheVariants.{Round, Year}
use Rattle.encl_core.specs.Steps.{IsUndecidedFloor}
use Rattle.book_model.specs.numbers.Bounds.{Bound, bounded, Reach, IsNarrow, breadth, at_32, bound_of, implies}
use Rattle.book_model.specs.numbers.Bounds.{constant_bound, sum_bound, scaled_bound, limits_of}
use Rattle.book_model.specs.sky.Facts.{IsFactValue}
use Rattle.book_model.specs.programs.Leading.{units_of_56, bounds, IsUndecidedCell, between_cells, too_far}
use Rattle.book_model.specs.programs.Programs.{integers, cell_at, cell_of, when}
use Rattle.book_model.specs.numbers.Expressions.{Expression, argument}
use Rattle.book_model.specs.numbers.Relations.{Narrow, Keeps}
use Rattle.book_model.specs.sky.Correction.{Correction, corrections, row_of_year}
use Rattle.book_model.proofs.CorrectionRows.{year_row}
use Rattle.time_scales.specs.Corrections.{correction_bound, units_in, units_of_year}
use Rattle.time_scales.proofs.CorrectionWidths.{holds_below, holds_of}
use Rattle.day_facts.specs.Widths.{rounded_expression, AreCloseBy, IsCloseFor}

-- within 10,000,000 of 0, and at most so wide, in 2^-64
abbrev rounded_within : ℕ → Bound
rounded_within m = bounded (negsuc (10000000 * 2 ^ 32 - 1)) (pos (10000000 * 2 ^ 32)) 0 m

-- the width of what is rounded for ΔT of so many units of 2^-bits
abbrev pub apart_by : (units bits : ℕ) → ℕ
apart_by units bits = (86400000 * units + 3) * 2 ^ (64 - bits)

abbrev pub rounded_bound : (units bits : ℕ) → Bound
rounded_bound units bits = rounded_within (apart_by units bits)

abbrev narrow_correction : (units bits : ℕ) → ℕ → Bound
narrow_correction units bits k = correction_bound units bits

abbrev fits_at : (units bits : ℕ) → Bool
fits_at units bits = implies (bound_of (limits_of bits) (narrow_correction units bits)
    (rounded_expression (argument 0))) (rounded_bound units bits)

-- what is rounded keeps the bound at the scale k bits finer than 2^-36
unfoldable is_rounded_well : (units : ℕ) → ℕ → Bool
is_rounded_well units k = fits_at units (36 + k)

-- for each number of units that the table promises, at each scale
unfoldable fits_scales : Correction → Bool
fits_scales row = option_map_or (λ units. holds_below (is_rounded_well units) 21) row.units true

scales_fit : list_all fits_scales corrections ≡ true
unfolding corrections fits_scales holds_below is_rounded_well implies bound_of limits_of constant_bound sum_bound
    scaled_bound
scales_fit = refl

abbrev FitsScale : (units bits : ℕ) → Type 0
FitsScale u n = fits_at u n ≡ true

fits_finer : (u k : ℕ) → is_rounded_well u k ≡ true → FitsScale u (36 + k)
unfolding is_rounded_well
fits_finer u k e = e

scale_fits : (u n : ℕ) → 36 ≤ n → n ≤ 56 → holds_below (is_rounded_well u) 21 ≡ true → FitsScale u n
scale_fits u n a b h =
    let p : 36 + (n - 36) ≡ n = omega (arith, a) in
    subst (λ k. FitsScale u k) p
    (fits_finer u (n - 36) (holds_of (is_rounded_well u) 21 (n - 36) h (omega (arith, a, b))))

units_fit : (n : ℕ) (o : Option ℕ) → 36 ≤ n → n ≤ 56 → option_map_or (λ units. holds_below (is_rounded_well units) 21) o
    true ≡ true
    → IfSome o (λ u. FitsScale u n)
units_fit n None a b h = tt
units_fit n (Some u) a b h = scale_fits u n a b h

year_fits : (n : ℕ) (y : ℤ) → 36 ≤ n → n ≤ 56 → IfSome (units_of_year y) (λ u. FitsScale u n)
unfolding units_of_year fits_scales
year_fits n y a b = by (row_of_year y) refl
  where
    by : (o : Option Correction) → row_of_year y ≡ o → IfSome (units_in o) (λ u. FitsScale u n)
    by None e = tt
    by (Some row) e = units_fit n row.units a b (year_row fits_scales y row scales_fit e).passes

-- what is rounded for ΔT of so many units keeps the bound
fitting_narrow : {E : Type 0} (shown : E → Interval) (n u : ℕ) (d e : E) → FitsScale u n
    → IsNarrow 0 (correction_bound u n) (shown d)
    → ((r : Reach) (x : Expression) → Narrow shown (limits_of n) r x d
    → Narrow shown (limits_of n) r (rounded_expression x) e)
    → IsNarrow 0 (rounded_bound u n) (shown e)
unfolding Keeps bound_of
fitting_narrow shown n u d e k h f =
    let r : Reach = record { width = 0; bounds = narrow_correction u n } in
    settled_at shown n 0 (narrow_correction u n) (rounded_expression (argument 0)) (rounded_bound u n) e k
    (f r (argument 0) (record { kept = h }))

all_narrow : {E : Type 0} (shown : E → Interval) (n : ℕ) (o : Option ℕ) (d e : E) → IfSome o (λ u. FitsScale u n)
    → IfSome o (λ u. IsNarrow 0 (correction_bound u n) (shown d))
    → ((r : Reach) (x : Expression) → Narrow shown (limits_of n) r x d
    → Narrow shown (limits_of n) r (rounded_expression x) e)
    → IfSome o (λ u. IsNarrow 0 (rounded_bound u n) (shown e))
all_narrow shown n None d e k h f = tt
all_narrow shown n (Some u) d e k h f = fitting_narrow shown n u d e k h f

pub rounded_narrow : {E : Type 0} (shown : E → Interval) (n : ℕ) (y : ℤ) (d e : E) → 36 ≤ n → n ≤ 56
    → IfSome (units_of_year y) (λ u. IsNarrow 0 (correction_bound u n) (shown d))
    → ((r : Reach) (x : Expression) → Narrow shown (limits_of n) r x d
    → Narrow shown (limits_of n) r (rounded_expression x) e)
    → IfSome (units_of_year y) (λ u. IsNarrow 0 (rounded_bound u n) (shown e))
rounded_narrow shown n y d e a b h f = all_narrow shown n (units_of_year y) d e (year_fits n y a b) h f

-- the floor of a number that keeps the bound is a value of a fact
floor_low : floor (at_32 (negsuc (10000000 * 2 ^ 32 - 1))) ≡ negsuc 9999999
floor_low = refl

floor_high : floor (at_32 (pos (10000000 * 2 ^ 32))) ≡ pos 10000000
floor_high = refl

when_some : {A : Type 0} (b : Bool) (a q : A) → when b a ≡ Some q → a ≡ q
when_some true a q e = cc
when_some false a q e = absurd (cc)

floor_is_value : (m : ℕ) (i : Interval) (q : ℤ) → IsNarrow 0 (rounded_within m) i → cell_at integers i ≡ Some q
    → IsFactValue q
unfolding cell_at cell_of IsNarrow
floor_is_value m everything q h e = absurd h
floor_is_value m (between lo hi) q h e =
    let s : floor lo ≡ q = when_some _ _ q e in
    let l = floor_mono _ _ h.above in
    let u = floor_mono _ _ (le_trans _ _ _ h.ordered h.below) in
    (omega (arith, ints, floor_low), omega (arith, ints, floor_high))

value_fits : (q : ℤ) → IsFactValue q → FitsSigned w64 q
value_fits q h = omega (arith, ints, h.0, h.1)

apart_at_most : (m : ℕ) (lo hi : ℤ) → units_of_56 hi ≤F plus (units_of_56 lo) (breadth 0 0 m)
    → ((hi -ℤ lo) *ℤ pos 256) ≤ℤ pos m
unfolding plus
apart_at_most m lo hi h = omega (arith, ints, h.cross)

nothing_narrow : (m : ℕ) → IsNarrow 0 (rounded_within m) everything → ⊥
unfolding IsNarrow
nothing_narrow m h = h

close_endpoints : (m : ℕ) (a b : Fraction) (lo hi : ℤ) → units_of_56 lo ≈ a → units_of_56 hi ≈ b
    → IsNarrow 0 (rounded_within m) (between a b)
    → units_of_56 hi ≤F plus (units_of_56 lo) (breadth 0 0 m)
unfolding IsNarrow
close_endpoints m a b lo hi l r h = le_trans _ _ _ (le_of_same r)
    (le_trans _ _ _ h.close (plus_mono _ _ _ _ (ge_of_same l) (le_refl _)))

-- the bounds of an undecided floor of what keeps the bound are no further apart than it is wide
open_floor_close : (m : ℕ) (i : Interval) (lo hi : ℤ) → IsNarrow 0 (rounded_within m) i
    → IsUndecidedCell integers i lo hi → ((hi -ℤ lo) *ℤ pos 256) ≤ℤ pos m
open_floor_close m i lo hi h (too_far q e f b) = absurd (f (value_fits q (floor_is_value m i q h e)))
open_floor_close m everything lo hi h (between_cells e k) = absurd (nothing_narrow m h)
open_floor_close m (between a b) lo hi h (between_cells e (bounds l r)) = apart_at_most m lo hi
    (close_endpoints m a b lo hi l r h)

close_by : (n : ℕ) (i : Interval) (o : Option ℕ) (f : Fail) → IfSome o (λ u. IsNarrow 0 (rounded_bound u n) i)
    → IsUndecidedFloor i Round f
    → IfSome o (λ u. AreCloseBy n u f)
close_by n i None f h o = tt
close_by n i (Some u) (undecided_at x) h o = open_floor_close (apart_by u n) i x.lo x.hi h o.0
close_by n i (Some u) (Void s) h o = tt

-- an undecided floor of what keeps the bound that the table promises lies within its units
pub close_round : (n : ℕ) (i : Interval) (y : ℤ) (f : Fail)
    → IfSome (units_of_year y) (λ u. IsNarrow 0 (rounded_bound u n) i) → IsUndecidedFloor i Round f
    → IsCloseFor n y f
close_round n i y f h o = close_by n i (units_of_year y) f h o

-- a void is no undecided test
void_by : (n : ℕ) (o : Option ℕ) (f : Fail) → f ≡ Void Year → IfSome o (λ u. AreCloseBy n u f)
void_by n None f e = tt
void_by n (Some u) f e = rw e tt

pub void_is_close : (n : ℕ) (y : ℤ) (f : Fail) → f ≡ Void Year → IsCloseFor n y f
void_is_close n y f e = void_by n (units_of_year y) f e

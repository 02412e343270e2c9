-- The cells of a test cut the line at their thresholds.
use Rattle.std.specs.Prelude.{suc, ◌-◌, ℤ, pos, ◌+ℤ◌, ◌*ℤ◌, ◌≤ℤ◌, ◌<ℤ◌}
use Rattle.std.proofs.Common.{arith, refl, [], ◌∷◌}
use Rattle.std.proofs.lemmas.Int.{ints}
use Rattle.exact_math.specs.Fraction.{Fraction, den, whole, ◌≤F◌, ◌<F◌, floor, floor_quotient}
use Rattle.exact_math.proofs.Bounds.{◌≼◌, known, ◌⊞◌, ◌⊠◌, times, le_by}
use Rattle.exact_math.proofs.IntLaws.{mul_add, mul_comm}
use Rattle.exact_math.proofs.Ring.{at, lit, ◌⊕◌, ◌⊗◌}
use Rattle.exact_math.proofs.Floors.{floor_quotient_is}
use Rattle.book_model.specs.programs.Programs.{Grid, integers, multiples, years, cell_of, threshold, CellsCut}
use Rattle.book_model.proofs.Calendars.{year_is}

below_z : (q f n d : ℤ) → q ≤ℤ f → (f *ℤ d) ≤ℤ n → pos 1 ≤ℤ d → (q *ℤ d) ≤ℤ (n *ℤ pos 1)
below_z q f n d h k l =
    le_by (q ∷ f ∷ n ∷ d ∷ []) ((at 0 ≼ at 1) ∷ (at 1 ⊗ at 3 ≼ at 2) ∷ (lit (pos 1) ≼ at 3) ∷ []) (at 0 ⊗ at 3)
    (at 2 ⊗ lit (pos 1))
    (known 1 ⊞ known 0 ⊠ (known 2 ⊞ times 1)) refl (h, (k, (l, tt)))

above_z : (q f n d : ℤ) → f <ℤ q → n <ℤ (f *ℤ d +ℤ d) → pos 1 ≤ℤ d → (n *ℤ pos 1) <ℤ (q *ℤ d)
above_z q f n d h k l =
    let h' : (f +ℤ pos 1) ≤ℤ q = omega (arith, ints) in
    let k' : (n +ℤ pos 1) ≤ℤ (f *ℤ d +ℤ d) = omega (arith, ints) in
    let r : (n *ℤ pos 1 +ℤ pos 1) ≤ℤ (q *ℤ d) = le_by (q ∷ f ∷ n ∷ d ∷ [])
    ((at 1 ⊕ lit (pos 1) ≼ at 0) ∷ (at 2 ⊕ lit (pos 1) ≼ at 1 ⊗ at 3 ⊕ at 3) ∷ (lit (pos 1) ≼ at 3) ∷ [])
    (at 2 ⊗ lit (pos 1) ⊕ lit (pos 1)) (at 0 ⊗ at 3)
    (known 1 ⊞ known 0 ⊠ (known 2 ⊞ times 1)) refl (h', (k', (l, tt))) in
    omega (arith, ints, r)

-- a whole number at or below the floor is at or below the fraction, and one above the floor is above it
pub whole_below : (q : ℤ) (a : Fraction) → q ≤ℤ floor a → whole q ≤F a
whole_below q a h =
    let f = floor_quotient_is a.num a.below in
    record { cross = below_z q (floor a) a.num (den a) h f.not_above (omega (arith, ints)) }

pub whole_above : (q : ℤ) (a : Fraction) → floor a <ℤ q → a <F whole q
whole_above q a h =
    let f = floor_quotient_is a.num a.below in
    record { strict = above_z q (floor a) a.num (den a) h f.close (omega (arith, ints)) }

begun_at : (g : Grid) (a : Fraction) → threshold g (cell_of g a) ≤F a
unfolding cell_of threshold
begun_at integers a = whole_below _ a (omega (arith, ints))
begun_at (multiples m) a = let f = floor_quotient_is (floor a) (m - 1) in
    whole_below _ a (omega (arith, ints, f.not_above))
begun_at years a = whole_below _ a (year_is (floor a)).begun

over_at : (g : Grid) (a : Fraction) → a <F threshold g (cell_of g a +ℤ pos 1)
unfolding cell_of threshold
over_at integers a = whole_above _ a (omega (arith, ints))
over_at (multiples m) a = let f = floor_quotient_is (floor a) (m - 1) in whole_above _ a
    (omega (
      arith,
      ints,
      f.close,
      mul_add (pos (suc (m - 1))) (floor_quotient (floor a) (m - 1)) (pos 1),
      mul_comm (pos (suc (m - 1))) (floor_quotient (floor a) (m - 1)),
    ))
over_at years a = whole_above _ a (year_is (floor a)).not_over

pub cells_cut : (g : Grid) → CellsCut g
cells_cut g = record { begun = begun_at g; not_over = over_at g }

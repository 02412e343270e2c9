-- The sum over a table by its first rows and the others. The definition sums row by row: by induction on the rows, the
-- sum of the first ones is that of the shorter table, and so many of the others added to it are within the sum of both
-- parts.
use Rattle.std.specs.Prelude.{◌≡◌, ℕ, zero, suc, ◌+◌, ◌≤◌, pos, List, length, ◌++◌, slice_index_or, refl}
use Rattle.std.proofs.Common.{arith}
use Rattle.std.proofs.lemmas.List.{get_or_append_left, get_or-append-add, length-append}
use Rattle.book_model.specs.Fraction.{whole}
use Rattle.book_model.specs.Interval.{Interval, everything, between, ◌⊆◌, sum}
use Rattle.book_model.proofs.Intervals.{within_trans, within_refl, sum_within}
use Rattle.book_model.proofs.Same.{plus_assoc, plus_zero, le_of_same, ge_of_same}
use Rattle.book_model.specs.numbers.Expressions.{Expression, World, value, add, exactly}
use Rattle.book_model.specs.numbers.Relations.{Within, Lies}
use Rattle.book_model.specs.numbers.Terms.{terms_to, terms_of}

-- sums of three
regrouped : (i j k : Interval) → sum (sum i j) k ⊆ sum i (sum j k)
unfolding sum
regrouped everything j k = record { endpoints = tt }
regrouped (between a b) everything k = record { endpoints = tt }
regrouped (between a b) (between c d) everything = record { endpoints = tt }
regrouped (between a b) (between c d) (between e f) =
    record { endpoints = (ge_of_same (plus_assoc a c e), le_of_same (plus_assoc b d f)) }

and_none : (i : Interval) → i ⊆ sum i (exactly (whole (pos 0)))
unfolding sum
and_none everything = record { endpoints = tt }
and_none (between a b) = record { endpoints = (le_of_same (plus_zero a), ge_of_same (plus_zero b)) }

module _ {R : Type 0} (w : World) (term : R → Expression) (none : R) (xs ys : List R) where
  -- the first rows
  first_rows : (n : ℕ) → n ≤ length xs → terms_to term none (xs ++ ys) n ≡ terms_to term none xs n
  unfolding terms_to
  first_rows zero h = refl
  first_rows (suc n) h =
      let there : slice_index_or (xs ++ ys) n none ≡ slice_index_or xs n none = get_or_append_left xs ys none n
      (omega (arith, h)) in
      rw (first_rows n (omega (arith, h)), there) refl

  -- and so many of the others
  then_rows : (n : ℕ) → value w (terms_to term none (xs ++ ys) (length xs + n)) ⊆ sum
      (value w (terms_to term none xs (length xs)))
      (value w (terms_to term none ys n))
  unfolding terms_to value
  then_rows zero =
      let all : length xs + 0 ≡ length xs = omega arith in
      rw (all, first_rows (length xs) (omega arith)) (and_none _)
  then_rows (suc n) =
      let next : length xs + suc n ≡ suc (length xs + n) = omega arith in
      let there : slice_index_or (xs ++ ys) (length xs + n) none ≡ slice_index_or ys n none =
      get_or-append-add xs ys n none in
      rw (next, there) (within_trans (sum_within (then_rows n) (within_refl _)) (regrouped _ _ _))

-- what holds the sum of two parts holds that of the whole
pub parted : {R E : Type 0} {shown : E → Interval} {w : World} {e : E} (term : R → Expression) (none : R)
    (xs ys : List R)
    → Within shown w (add (terms_of term none xs) (terms_of term none ys)) e
    → Within shown w (terms_of term none (xs ++ ys)) e
unfolding Lies terms_of value
parted {w = w} term none xs ys h =
    let all : length (xs ++ ys) ≡ length xs + length ys = length-append xs ys in
    record { deep = h.deep; inside = rw all (within_trans (then_rows w term none xs ys (length ys)) h.inside) }

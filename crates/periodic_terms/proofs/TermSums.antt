-- The sum of the rows of a table: what lies around two numbers adds up to what lies around their sum, row by row, and
-- the radius of all is that of the rows' totals.
use Rattle.std.proofs.Common.{sym, subst, ◌∙◌, ◌≡◌, ℕ, zero, suc, ◌+◌, ◌*◌, ◌/◌, ◌-◌, ◌^◌, ◌≤◌, ◌<◌, refl, ap, arith, ℤ}
use Rattle.std.proofs.Common.{pos, ◌+ℤ◌, ◌-ℤ◌}
use Rattle.std.proofs.Common.{◌*ℤ◌, add-one, List, length, slice_index_or, [], ◌∷◌}
use Rattle.std.proofs.lemmas.Int.{ints}
use Rattle.book_model.specs.Fraction.{◌≤F◌, plus, below_product}
use Rattle.book_model.specs.Interval.{◌⊆◌, sum}
use Rattle.book_model.proofs.Bounds.{times as naturally, le_by}
use Rattle.book_model.proofs.Fractions.{by_cross, den_product}
use Rattle.book_model.proofs.Intervals.{within_trans, sum_within}
use Rattle.book_model.proofs.Ring.{at, lit, ◌⊕◌, ◌⊗◌, ring}
use Rattle.book_model.specs.numbers.Expressions.{Expression, World, value}
use Rattle.book_model.specs.numbers.Terms.{terms_to, terms_of}
use Rattle.periodic_terms.specs.Multiples.{AreSmall, AreTerms, IsSmallRow, IsTerm, in_93, around_93, most_of, no_sums}
use Rattle.periodic_terms.specs.Multiples.{radius_of, sums_of, sums_to, together}
use Rattle.periodic_terms.specs.declared.term_sums.RowSums.{RowSums}
use Rattle.periodic_terms.specs.declared.term_rows.Multiples.{Multiples}
use Rattle.periodic_terms.specs.declared.mean.MeanFactors.{MeanFactors}
use Rattle.periodic_terms.specs.declared.mean.MeanTurns.{MeanTurns}
use Rattle.periodic_terms.proofs.TermRows.{row_most}

-- ---- the sum of two, in parts of one size
plus_above : (u : ℕ) (p q z : ℤ) → z ≡ p +ℤ q → in_93 u z ≤F plus (in_93 u p) (in_93 u q)
unfolding plus
plus_above u p q z e =
    let b = below_product (2 ^ 93 - 1) u in
    let d = pos (suc b) in
    by_cross (in_93 u z) (plus (in_93 u p) (in_93 u q)) d (d *ℤ d) refl (den_product b b)
    (rw e (le_by (p ∷ q ∷ d ∷ []) [] ((at 0 ⊕ at 1) ⊗ (at 2 ⊗ at 2)) ((at 0 ⊗ at 2 ⊕ at 1 ⊗ at 2) ⊗ at 2) (naturally 0)
    refl tt))

plus_below : (u : ℕ) (p q z : ℤ) → z ≡ p +ℤ q → plus (in_93 u p) (in_93 u q) ≤F in_93 u z
unfolding plus
plus_below u p q z e =
    let b = below_product (2 ^ 93 - 1) u in
    let d = pos (suc b) in
    by_cross (plus (in_93 u p) (in_93 u q)) (in_93 u z) (d *ℤ d) d (den_product b b) refl
    (rw e (le_by (p ∷ q ∷ d ∷ []) [] ((at 0 ⊗ at 2 ⊕ at 1 ⊗ at 2) ⊗ at 2) ((at 0 ⊕ at 1) ⊗ (at 2 ⊗ at 2)) (naturally 0)
    refl tt))

sum_around : (u : ℕ) (a b : ℤ) (d e n : ℕ) → n ≡ d + e → sum (around_93 u a d) (around_93 u b e) ⊆ around_93 u
    (a +ℤ b) n
unfolding sum
sum_around u a b d e n h = record {
  endpoints = (
    plus_above u _ _ _ (omega (arith, ints, h)),
    plus_below u _ _ _ (omega (arith, ints, h)),
  );
}

-- ---- the radius
pub nat_eq : (m n : ℕ) → pos m ≡ pos n → m ≡ n
nat_eq m n h = omega (arith, ints, h)

radius_added : (t : MeanTurns) (a b : RowSums) → radius_of t (together a b) ≡ radius_of t a + radius_of t b
radius_added t a b =
    nat_eq _ _ (ring (pos t.factors.greatest.0 ∷ pos (t.elongation.half.count / 1824 + 1)
    ∷ pos (t.sun_anomaly.half.count / 1824 + 1)
    ∷ pos (t.moon_anomaly.half.count / 1824 + 1) ∷ pos (t.latitude_argument.half.count / 1824 + 1)
    ∷ pos ((t.factors.wide.0 + 1) * 2 ^ 37)
    ∷ pos a.elongation ∷ pos a.sun_anomaly ∷ pos a.moon_anomaly ∷ pos a.latitude_argument ∷ pos a.sizes ∷ pos a.powered
    ∷ pos b.elongation ∷ pos b.sun_anomaly ∷ pos b.moon_anomaly ∷ pos b.latitude_argument ∷ pos b.sizes ∷ pos b.powered
    ∷ [])
    (at 0 ⊗ ((at 6 ⊕ at 12) ⊗ at 1 ⊕ (at 7 ⊕ at 13) ⊗ at 2 ⊕ (at 8 ⊕ at 14) ⊗ at 3 ⊕ (at 9 ⊕ at 15) ⊗ at 4
    ⊕ lit (pos 11) ⊗ (at 10 ⊕ at 16))
    ⊕ (at 11 ⊕ at 17) ⊗ at 5)
    ((at 0 ⊗ (at 6 ⊗ at 1 ⊕ at 7 ⊗ at 2 ⊕ at 8 ⊗ at 3 ⊕ at 9 ⊗ at 4 ⊕ lit (pos 11) ⊗ at 10) ⊕ at 11 ⊗ at 5)
    ⊕ (at 0 ⊗ (at 12 ⊗ at 1 ⊕ at 13 ⊗ at 2 ⊕ at 14 ⊗ at 3 ⊕ at 15 ⊗ at 4 ⊕ lit (pos 11) ⊗ at 16) ⊕ at 17 ⊗ at 5)) refl)

none_of : (t : MeanTurns) → radius_of t no_sums ≡ 0
none_of t = omega arith

most_added : (f : MeanFactors) (a b : RowSums) → most_of f (together a b) ≡ most_of f a + most_of f b
most_added f a b =
    nat_eq _ _ (ring (pos (f.greatest.0 - 2 ^ 37) ∷ pos a.sizes ∷ pos a.powered ∷ pos b.sizes ∷ pos b.powered ∷ [])
    (((at 1 ⊕ at 3) ⊗ lit (pos (2 ^ 37)) ⊕ (at 2 ⊕ at 4) ⊗ at 0) ⊗ lit (pos (2 ^ 56)))
    ((at 1 ⊗ lit (pos (2 ^ 37)) ⊕ at 2 ⊗ at 0) ⊗ lit (pos (2 ^ 56)) ⊕ (at 3 ⊗ lit (pos (2 ^ 37)) ⊕ at 4 ⊗ at 0) ⊗ lit
    (pos (2 ^ 56))) refl)

no_most : (f : MeanFactors) → most_of f no_sums ≡ 0
no_most f = omega arith

zero_below : (u : ℕ) (e : ℕ) → e ≡ 0 → in_93 u (pos 0 -ℤ pos e) ≤F record { num = pos 0; below = 0 }
zero_below u e h = rw h (record { cross = omega (arith, ints) })

zero_above : (u : ℕ) (e : ℕ) → e ≡ 0 → record { num = pos 0; below = 0 } ≤F in_93 u (pos 0 +ℤ pos e)
zero_above u e h = rw h (record { cross = omega (arith, ints) })

-- ---- what stands for a row past the last doesn't matter before it
same_row : {T : Type 0} (rows : List T) (i : ℕ) (a b : T) → i < length rows
    → slice_index_or rows i a ≡ slice_index_or rows i b
same_row [] i a b h = absurd (omega (arith, h))
same_row (x ∷ xs) zero a b h = refl
same_row (x ∷ xs) (suc i) a b h = same_row xs i a b (omega (arith, h))

pub row_is : {T : Type 0} (row_of : T → Multiples) (rows : List T) (i : ℕ) (none item : T) (r : Multiples)
    → i < length rows → r ≡ row_of item
    → item ≡ slice_index_or rows i item → r ≡ row_of (slice_index_or rows i none)
row_is row_of rows i none item r l e h = e ∙ ap row_of (h ∙ same_row rows i item none l)

pub small_row : {T : Type 0} (row_of : T → Multiples) (rows : List T) (i : ℕ) (item : T) (r : Multiples)
    → AreSmall row_of rows → i < length rows
    → r ≡ row_of item → item ≡ slice_index_or rows i item → IsSmallRow r
small_row row_of rows i item r s l e h = subst IsSmallRow (sym (row_is row_of rows i item item r l e h)) (s i l item)

-- what a row adds, as a function of the row
abbrev pub Adds : World → ℕ → MeanTurns → ℤ → Multiples → Type 0
Adds w u t b r = (x : Expression) → IsTerm w u t r x → value w x ⊆ around_93 u b (radius_of t (sums_of r))

-- ---- row by row
module _ {T : Type 0} (w : World) (u : ℕ) (t : MeanTurns) (row_of : T → Multiples) (term : T → Expression) (none : T)
    (rows : List T) where
  -- the sum of the first n rows is around a number
  abbrev pub IsSum : ℕ → ℤ → Type 0
  IsSum n a = value w (terms_to term none rows n) ⊆ around_93 u a (radius_of t (sums_to row_of none rows n))

  pub none_around : IsSum 0 (pos 0)
  unfolding value terms_to sums_to
  none_around = record { endpoints = (zero_below u _ (none_of t), zero_above u _ (none_of t)) }

  abbrev row : ℕ → Multiples
  row i = row_of (slice_index_or rows i none)

  more_around : (i : ℕ) (a b : ℤ) → IsSum i a
      → value w (term (slice_index_or rows i none)) ⊆ around_93 u b (radius_of t (sums_of (row i)))
      → IsSum (suc i) (a +ℤ b)
  unfolding value terms_to sums_to
  more_around i a b h k = within_trans (sum_within h k) (sum_around u a b _ _ _ (radius_added t _ _))

  pub next_around : (i : ℕ) (a b : ℤ) → IsSum i a
      → value w (term (slice_index_or rows i none)) ⊆ around_93 u b (radius_of t (sums_of (row i)))
      → IsSum (i + 1) (a +ℤ b)
  next_around i a b h k = rw add-one (more_around i a b h k)

  pub item_around : (i : ℕ) (a b : ℤ) (r : Multiples) → i < length rows → r ≡ row i
      → AreTerms w u t row_of term rows none → Adds w u t b r → IsSum i a
      → IsSum (i + 1) (a +ℤ b)
  item_around i a b r l e terms f h = next_around i a b h (subst (Adds w u t b) e f (term (slice_index_or rows i none))
      (terms i l))

  pub all_around : (i : ℕ) (a : ℤ) → i ≡ length rows → IsSum i a
      → value w (terms_of term none rows) ⊆ around_93 u a (radius_of t (sums_to row_of none rows (length rows)))
  unfolding terms_of
  all_around i a e h = rw e at h

  -- ---- the sum is at most so far from 0, whatever the angles
  abbrev IsMost : ℕ → Type 0
  IsMost n = value w (terms_to term none rows n) ⊆ around_93 u (pos 0) (most_of t.factors (sums_to row_of none rows n))

  none_most : IsMost 0
  unfolding value terms_to sums_to
  none_most = record { endpoints = (zero_below u _ (no_most t.factors), zero_above u _ (no_most t.factors)) }

  more_most : (i : ℕ) → IsMost i → value w (term (slice_index_or rows i none)) ⊆ around_93 u (pos 0)
      (most_of t.factors (sums_of (row i)))
      → IsMost (suc i)
  unfolding value terms_to sums_to
  more_most i h k = within_trans (sum_within h k) (sum_around u (pos 0) (pos 0) _ _ _
      (most_added t.factors (sums_to row_of none rows i) (sums_of (row i))))

  most_to : AreSmall row_of rows → AreTerms w u t row_of term rows none → (n : ℕ) → n ≤ length rows → IsMost n
  most_to small terms zero l = none_most
  most_to small terms (suc n) l =
      more_most n (most_to small terms n (omega (arith, l)))
      (row_most w u t (row n) (term (slice_index_or rows n none)) (small n (omega (arith, l)) none)
      (terms n (omega (arith, l))))

  pub all_most : AreSmall row_of rows → AreTerms w u t row_of term rows none
      → value w (terms_of term none rows) ⊆ around_93 u (pos 0)
      (most_of t.factors (sums_to row_of none rows (length rows)))
  unfolding terms_of
  all_most small terms = most_to small terms (length rows) (omega arith)

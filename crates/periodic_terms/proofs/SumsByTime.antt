-- The sum of the rows of a table of periodic terms: what lies around two numbers adds up to what lies around their
-- sum, row by row, and the radii of all rows add up to what two sums over the table say, of the sizes and of the
-- sizes times the rates.
use Rattle.std.proofs.Common.{◌≡◌, ℕ, zero, suc, ◌+◌, ◌*◌, ◌/◌, refl, arith, unsigned_abs, ℤ, pos, ◌+ℤ◌, ◌-ℤ◌, ◌*ℤ◌}
use Rattle.std.proofs.Common.{◌≤ℤ◌, add-one, List, length, slice_index_or, [], ◌∷◌}
use Rattle.std.proofs.lemmas.Int.{ints}
use Rattle.book_model.specs.Fraction.{plus}
use Rattle.book_model.specs.Interval.{Interval, between, ◌⊆◌, sum}
use Rattle.book_model.proofs.Bounds.{◌≼◌, known, ◌⊞◌, ◌⊠◌, le_by}
use Rattle.book_model.proofs.Intervals.{within_trans, sum_within}
use Rattle.book_model.proofs.Ring.{at, lit, ◌⊕◌, ◌⊗◌}
use Rattle.book_model.specs.declared.polynomial.PeriodicTerm.{PeriodicTerm}
use Rattle.book_model.specs.numbers.Expressions.{Expression, World, value}
use Rattle.book_model.specs.numbers.Polynomials.{no_periodic_term}
use Rattle.book_model.specs.numbers.Terms.{terms_to, terms_of}
use Rattle.book_model.specs.programs.Leading.{units_of_56}
use Rattle.periodic_terms.specs.Turning.{turning_term_of, radius_of, radius_to, sizes_to, reach_to}

-- what lies within e of a number
abbrev pub around : ℤ → ℕ → Interval
around n e = between (units_of_56 (n -ℤ pos e)) (units_of_56 (n +ℤ pos e))

sum_around : (a b : ℤ) (d e : ℕ) → sum (around a d) (around b e) ⊆ around (a +ℤ b) (d + e)
unfolding sum plus
sum_around a b d e =
    record { endpoints = (record { cross = omega (arith, ints) }, record { cross = omega (arith, ints) }) }

pub none_around : (w : World) (x : Expression) (vs : List PeriodicTerm) (width : ℕ)
    → value w (terms_to (turning_term_of x) no_periodic_term vs 0) ⊆ around (pos 0) (radius_to vs width 0)
unfolding value terms_to radius_to
none_around w x vs width = record {
  endpoints = (
    record { cross = omega (arith, ints) },
    record { cross = omega (arith, ints) },
  );
}

pub more_around : (w : World) (x : Expression) (vs : List PeriodicTerm) (width i : ℕ) (a b : ℤ)
    → value w (terms_to (turning_term_of x) no_periodic_term vs i) ⊆ around a (radius_to vs width i)
    → value w (turning_term_of x (slice_index_or vs i no_periodic_term))
    ⊆ around b (radius_of (slice_index_or vs i no_periodic_term) width)
    → value w (terms_to (turning_term_of x) no_periodic_term vs (suc i)) ⊆ around (a +ℤ b) (radius_to vs width (suc i))
unfolding value terms_to radius_to
more_around w x vs width i a b h k = within_trans (sum_within h k) (sum_around a b _ _)

pub next_around : (w : World) (x : Expression) (vs : List PeriodicTerm) (width i : ℕ) (a b : ℤ)
    → value w (terms_to (turning_term_of x) no_periodic_term vs i) ⊆ around a (radius_to vs width i)
    → value w (turning_term_of x (slice_index_or vs i no_periodic_term))
    ⊆ around b (radius_of (slice_index_or vs i no_periodic_term) width)
    → value w (terms_to (turning_term_of x) no_periodic_term vs (i + 1)) ⊆ around (a +ℤ b) (radius_to vs width (i + 1))
next_around w x vs width i a b h k = rw add-one (more_around w x vs width i a b h k)

pub all_around : (w : World) (x : Expression) (vs : List PeriodicTerm) (width i : ℕ) (a : ℤ) → i ≡ length vs
    → value w (terms_to (turning_term_of x) no_periodic_term vs i) ⊆ around a (radius_to vs width i)
    → value w (terms_of (turning_term_of x) no_periodic_term vs) ⊆ around a (radius_to vs width (length vs))
unfolding terms_of
all_around w x vs width i a e h = rw e at h

-- ---- the radius of all rows
row_radius : (z r w q : ℤ) → pos 0 ≤ℤ z → (q *ℤ pos 20819250000000) ≤ℤ (r *ℤ w)
    → ((z *ℤ (q +ℤ pos 28)) *ℤ pos 20819250000000) ≤ℤ ((z *ℤ r) *ℤ w +ℤ z *ℤ pos (28 * 20819250000000))
row_radius z r w q n h =
    le_by (z ∷ r ∷ w ∷ q ∷ []) ((lit (pos 0) ≼ at 0) ∷ (at 3 ⊗ lit (pos 20819250000000) ≼ at 1 ⊗ at 2) ∷ [])
    ((at 0 ⊗ (at 3 ⊕ lit (pos 28))) ⊗ lit (pos 20819250000000))
    ((at 0 ⊗ at 1) ⊗ at 2 ⊕ at 0 ⊗ lit (pos (28 * 20819250000000)))
    (known 0 ⊠ known 1) refl (n, (h, tt))

added : (a b c d e f w : ℤ) → (a *ℤ pos 20819250000000) ≤ℤ (c *ℤ w +ℤ e *ℤ pos (28 * 20819250000000))
    → (b *ℤ pos 20819250000000) ≤ℤ (d *ℤ w +ℤ f *ℤ pos (28 * 20819250000000))
    → ((a +ℤ b) *ℤ pos 20819250000000) ≤ℤ ((c +ℤ d) *ℤ w +ℤ (e +ℤ f) *ℤ pos (28 * 20819250000000))
added a b c d e f w h k =
    le_by (a ∷ b ∷ c ∷ d ∷ e ∷ f ∷ w ∷ []) ((at 0 ⊗ lit (pos 20819250000000) ≼ at 2 ⊗ at 6
    ⊕ at 4 ⊗ lit (pos (28 * 20819250000000))) ∷
    (at 1 ⊗ lit (pos 20819250000000) ≼ at 3 ⊗ at 6 ⊕ at 5 ⊗ lit (pos (28 * 20819250000000))) ∷ [])
    ((at 0 ⊕ at 1) ⊗ lit (pos 20819250000000)) ((at 2 ⊕ at 3) ⊗ at 6 ⊕ (at 4 ⊕ at 5) ⊗ lit (pos (28 * 20819250000000)))
    (known 0 ⊞ known 1) refl
    (h, (k, tt))

quotient_below : (v : ℕ) → (pos (v / 20819250000000) *ℤ pos 20819250000000) ≤ℤ pos v
quotient_below v = omega (arith, ints)

pub radius_is : (vs : List PeriodicTerm) (w n : ℕ) → (pos (radius_to vs w n) *ℤ pos 20819250000000) ≤ℤ
    (pos (reach_to vs n) *ℤ pos w +ℤ pos (sizes_to vs n) *ℤ pos (28 * 20819250000000))
unfolding radius_to reach_to sizes_to
radius_is vs w zero = omega (arith, ints)
radius_is vs w (suc n) =
    let v = slice_index_or vs n no_periodic_term in
    let z = unsigned_abs v.size in
    let r = unsigned_abs v.rate in
    added (pos (radius_to vs w n)) (pos (radius_of v w)) (pos (reach_to vs n)) (pos (z * r)) (pos (sizes_to vs n))
    (pos z) (pos w) (radius_is vs w n)
    (row_radius (pos z) (pos r) (pos w) (pos (r * w / 20819250000000)) (omega (arith, ints)) (quotient_below (r * w)))

-- A moment of local mean time lies in the table, or a day from it, where its universal time does. The two differ by a
-- longitude's part of a day, which is at most one, so that an endpoint's range moves by at most a day; the width stays
-- what it is.
use Rattle.std.specs.Prelude.{◌≡◌, ℕ, ◌^◌, ◌≤◌, ℤ, pos, negsuc, ◌+ℤ◌, ◌-ℤ◌, refl}
use Rattle.std.proofs.Common.{arith, [], ◌∷◌}
use Rattle.std.proofs.lemmas.Int.{ints}
use Rattle.book_model.specs.Fraction.{Fraction, ◌≤F◌, whole, plus, opposite}
use Rattle.book_model.specs.Interval.{Interval, IsProper, everything, between, ◌⊆◌, sum, negative}
use Rattle.book_model.proofs.FractionRing.{same_by}
use Rattle.book_model.proofs.Fractions.{le_trans, plus_mono}
use Rattle.book_model.proofs.Intervals.{within_refl}
use Rattle.book_model.proofs.Ring.{at, ◌⊕◌, ◌⊖◌}
use Rattle.book_model.proofs.Same.{le_of_same}
use Rattle.book_model.specs.declared.frac.Frac.{Frac}
use Rattle.book_model.specs.numbers.Bounds.{Reach, IsNarrow, limits_of}
use Rattle.book_model.specs.numbers.Depth.{DEPTH}
use Rattle.book_model.specs.numbers.Expressions.{Expression, World, value, argument, subtract}
use Rattle.book_model.specs.numbers.Fractions.{fraction_of}
use Rattle.book_model.specs.numbers.Ranges.{IsInTable, IsNearTable}
use Rattle.book_model.specs.numbers.Relations.{Narrow, Within, Lies}
use Rattle.book_model.specs.programs.Widths.{IsAbout, IsMoment}
use Rattle.book_model.specs.sky.Noon.{ahead_of}
use Rattle.book_model.proofs.Values.{value_proper}
use Rattle.sun_core.specs.Widths.{IsNarrowPlace}
use Rattle.sun_core.proofs.Measured.{ahead_within}
use Rattle.book_model.specs.declared.time_tables.TheConstants.{TABLE_START, TABLE_END}

whole_before : (n : ℤ) → whole (n -ℤ pos 1) ≤F plus (whole n) (whole (negsuc 0))
unfolding plus
whole_before n = record { cross = omega (arith, ints) }

whole_after : (n : ℤ) → plus (whole n) (whole (pos 1)) ≤F whole (n +ℤ pos 1)
unfolding plus
whole_after n = record { cross = omega (arith, ints) }

-- from where on a number lies, by its difference with one from -1 on
pub from_difference : (a d : Fraction) (n : ℤ) → whole n ≤F plus a (opposite d) → whole (negsuc 0) ≤F d
    → whole (n -ℤ pos 1) ≤F a
from_difference a d n h k = le_trans _ _ _ (whole_before n) (le_trans _ _ _ (plus_mono _ _ _ _ h k)
    (le_of_same (same_by (a ∷ d ∷ []) (at 0 ⊖ at 1 ⊕ at 1) (at 0) refl)))

-- up to where, by its difference with one up to 1
to_difference : (b c : Fraction) (n : ℤ) → plus b (opposite c) ≤F whole n → c ≤F whole (pos 1) → b ≤F whole (n +ℤ pos 1)
to_difference b c n h k = le_trans _ _ _ (le_of_same (same_by (b ∷ c ∷ []) (at 0) (at 0 ⊖ at 1 ⊕ at 1) refl))
    (le_trans _ _ _ (plus_mono _ _ _ _ h k) (whole_after n))

dated_by : (v m : ℕ) (i a j u : Interval) → sum i (negative a) ⊆ u → IsProper a → a ⊆ j → IsAbout (2 ^ 32) m j
    → IsMoment v u → IsInTable u → IsNearTable 1 i
unfolding sum negative IsNarrow
dated_by v m everything a j u s o n k h t = tt
dated_by v m (between p q) a j everything s o n k h t = absurd h.kept
dated_by v m (between p q) everything j (between x y) s o n k h t = absurd s.endpoints
dated_by v m (between p q) (between c d) everything (between x y) s o n k h t = absurd k.kept
dated_by v m (between p q) (between c d) (between e f) (between x y) s o n k h t =
    let low = le_trans _ _ _ (record { cross = omega (arith, ints) }) (le_trans _ _ _ k.kept.above n.endpoints.0) in
    let high = le_trans _ _ _ n.endpoints.1 (le_trans _ _ _ k.kept.below (record { cross = omega (arith, ints) })) in (
      from_difference p d TABLE_START (le_trans _ _ _ t.0 s.endpoints.0) (le_trans _ _ _ low o),
      to_difference q c TABLE_END (le_trans _ _ _ s.endpoints.1 t.1) (le_trans _ _ _ o high),
    )

unfoldable pub moment_world : (i : Interval) → IsProper i → World
moment_world i p = record { depth = 40; arguments = λ k. i; proper = λ k. p }

pub within_moment : {E : Type 0} (shown : E → Interval) (p : (e : E) → IsProper (shown e)) (e : E)
    → Within shown (moment_world (shown e) (p e)) (argument 0) e
unfolding Lies value moment_world
within_moment shown p e = record { deep = omega arith; inside = within_refl _ }

pub mean_dated : {E : Type 0} (shown : E → Interval) (p : (e : E) → IsProper (shown e)) (n v : ℕ) (l : Frac) (t a u : E)
    → n ≡ 56 → IsNarrowPlace l
    → ((r : Reach) → Narrow shown (limits_of n) r (ahead_of (fraction_of l)) a)
    → ((w : World) → DEPTH ≤ w.depth → Within shown w (ahead_of (fraction_of l)) a)
    → ((w : World) (x : Expression) → Within shown w x t → Within shown w (subtract x (ahead_of (fraction_of l))) u)
    → IsMoment v (shown u) → IsInTable (shown u) → IsNearTable 1 (shown t)
unfolding Lies value moment_world
mean_dated shown p n v l t a u e place f g h m i =
    let w = moment_world (shown t) (p t) in
    let d = within_moment shown p t in
    let x = h w (argument 0) d in
    let y = g w d.deep in
    dated_by v (2 ^ 10) (shown t) (value w (ahead_of (fraction_of l))) (shown a) (shown u) x.inside
    (value_proper w (ahead_of (fraction_of l))) y.inside
    (ahead_within shown n l a e place f) m i

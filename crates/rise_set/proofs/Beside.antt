-- The floor of a number to which a whole number is added: it is the floor of the number, and the whole number more. So
-- is the cell of an interval, and one that has none has none then, since both endpoints move alike. An undecided test
-- keeps its endpoints moved by whole units of 2^-56, where they have room.
use Rattle.std.specs.Prelude.{◌≡◌, ℕ, suc, ◌+◌, ◌*◌, ◌-◌, ◌^◌, ℤ, pos, negsuc, ◌+ℤ◌, ◌*ℤ◌, ◌≤ℤ◌, ◌<ℤ◌, Bool, true}
use Rattle.std.specs.Prelude.{false, Some, None, Result, Ok, Err, IfOk, IfErr, FitsSigned, refl}
use Rattle.std.proofs.Common.{arith, ◌∙◌}
use Rattle.std.specs.Int.{w64}
use Rattle.std.specs.Ordering.{int_eq}
use Rattle.std.proofs.lemmas.Int.{ints}
use Rattle.std.proofs.lemmas.Bool.Decides.{Decides-int_eq}
use Rattle.book_model.specs.Fraction.{Fraction, ◌≤F◌, ◌<F◌, ◌≈◌, whole, plus, floor}
use Rattle.book_model.specs.Interval.{Interval, everything, between, ◌⊆◌, sum}
use Rattle.book_model.proofs.Floors.{floor_below, floor_close}
use Rattle.book_model.proofs.Fractions.{le_refl, le_trans, le_lt_trans, plus_mono}
use Rattle.book_model.proofs.IntLaws.{add_mul}
use Rattle.book_model.proofs.Intervals.{sum_within, within_everything, within_refl}
use Rattle.book_model.proofs.Same.{same_refl, same_trans, plus_cong}
use Rattle.book_model.specs.declared.fail.Fail.{Fail}
use Rattle.book_model.specs.declared.fail.Fail.TheVariants.{Undecided as undecided_at, Void}
use Rattle.book_model.specs.declared.fail.Undecided.{Undecided}
use Rattle.book_model.specs.declared.site.Site.{Site}
use Rattle.book_model.specs.numbers.Expressions.{Expression, World, value, exactly, integer, add}
use Rattle.book_model.specs.programs.Leading.{units_of_56, AreNoBounds, AreEndpoints, bounds, no_bounds}
use Rattle.book_model.specs.programs.Leading.{IsUndecidedCell, between_cells, too_far, Exact, Leads, next_turn}
use Rattle.book_model.specs.programs.Programs.{answer, cell, integers, cell_of, cell_at, when, AtMost, answer_at_most}
use Rattle.book_model.specs.programs.Programs.{cell_at_most}
use Rattle.book_model.specs.numbers.Relations.{Within}
use Rattle.book_model.proofs.FactRuns.{when_some}
use Rattle.book_model.proofs.Leads.{leads_cell, leads_undecided_cell, leads_answer, leads_stop_at, few_tests, lies}
use Rattle.book_model.proofs.Early.{from_one}
use Rattle.encl_core.specs.parts.TheConstants.{ONE}
use Rattle.encl_core.specs.Steps.{IsUndecidedFloor}
use Rattle.rise_set.specs.Moved.{AreMoved, by_whole, to_no_bounds, IsBeside, IsTooFar, AreOf128Bits}

-- ---- floors
whole_sum : (m n : ℤ) → whole (m +ℤ n) ≤F plus (whole m) (whole n)
unfolding plus
whole_sum m n = record { cross = omega (arith, ints) }

strict_z : (n k q d : ℤ) → (n *ℤ pos 1) <ℤ ((q +ℤ pos 1) *ℤ d)
    → ((k *ℤ d +ℤ n *ℤ pos 1) *ℤ pos 1) <ℤ ((k +ℤ (q +ℤ pos 1)) *ℤ d)
strict_z n k q d h = rw (add_mul k (q +ℤ pos 1) d) (omega (arith, ints, h))

below_zero : (b : ℕ) → 0 * b + 0 + b ≡ b
below_zero b = omega arith

sum_below : (k q : ℤ) (a : Fraction) → a <F whole (q +ℤ pos 1) → plus (whole k) a <F whole (k +ℤ (q +ℤ pos 1))
unfolding plus
sum_below k q a h = record { strict = rw (below_zero a.below) (strict_z a.num k q (pos (suc a.below)) h.strict) }

pub floor_beside : (k : ℤ) (a : Fraction) → floor (plus (whole k) a) ≡ k +ℤ floor a
floor_beside k a =
    let low = le_trans _ _ _ (whole_sum k (floor a)) (plus_mono _ _ _ _ (le_refl (whole k)) (floor_below a)) in
    let high = sum_below k (floor a) a (floor_close a) in
    let l = le_lt_trans _ _ _ low (floor_close (plus (whole k) a)) in
    let u = le_lt_trans _ _ _ (floor_below (plus (whole k) a)) high in
    omega (arith, ints, l.strict, u.strict)

-- ---- cells
same_cells : (k m n : ℤ) (t : Bool) → int_eq m n ≡ t → int_eq (k +ℤ m) (k +ℤ n) ≡ t
same_cells k m n true e = (Decides-int_eq (k +ℤ m) (k +ℤ n)).1 (let s : m ≡ n = (Decides-int_eq m n).0 e in rw s refl)
same_cells k m n false e = by (int_eq (k +ℤ m) (k +ℤ n)) refl
  where
    by : (t : Bool) → int_eq (k +ℤ m) (k +ℤ n) ≡ t → int_eq (k +ℤ m) (k +ℤ n) ≡ false
    by false d = d
    by true d = let s : k +ℤ m ≡ k +ℤ n = (Decides-int_eq (k +ℤ m) (k +ℤ n)).0 d in let z : m
        ≡ n = omega (arith, ints, s) in let y = (Decides-int_eq m n).1 z in absurd (cc)

cell_beside : (k : ℤ) (i : Interval) (q : ℤ) → cell_at integers i ≡ Some q
    → cell_at integers (sum (exactly (whole k)) i) ≡ Some (k +ℤ q)
unfolding cell_at cell_of sum
cell_beside k everything q e = absurd (cc)
cell_beside k (between a b) q e =
    let w = when_some (int_eq (floor a) (floor b)) (floor a) q e in
    let s = same_cells k (floor a) (floor b) true w.0 in
    rw (floor_beside k a, floor_beside k b, s, w.1) refl

no_cell : (t : Bool) (m : ℤ) → when t m ≡ None → t ≡ false
no_cell true m e = absurd (cc)
no_cell false m e = refl

no_cell_beside : (k : ℤ) (i : Interval) → cell_at integers i ≡ None
    → cell_at integers (sum (exactly (whole k)) i) ≡ None
unfolding cell_at cell_of sum
no_cell_beside k everything e = refl
no_cell_beside k (between a b) e =
    let s = same_cells k (floor a) (floor b) false (no_cell (int_eq (floor a) (floor b)) (floor a) e) in
    rw (floor_beside k a, floor_beside k b, s) refl

-- ---- bounds
end_beside : (k n m : ℤ) → m ≡ n +ℤ k *ℤ ONE → units_of_56 m ≈ plus (whole k) (units_of_56 n)
unfolding plus
end_beside k n m e = record { cross = omega (arith, ints, e) }

endpoints_beside : (k lo hi low high : ℤ) (a b : Fraction) → low ≡ lo +ℤ k *ℤ ONE → high ≡ hi +ℤ k *ℤ ONE
    → units_of_56 lo ≈ a → units_of_56 hi ≈ b
    → AreEndpoints low high (sum (exactly (whole k)) (between a b))
unfolding sum
endpoints_beside k lo hi low high a b e f g h =
    bounds (same_trans (end_beside k lo low e) (plus_cong (same_refl (whole k)) g))
    (same_trans (end_beside k hi high f) (plus_cong (same_refl (whole k)) h))

-- ---- the test
within_beside : (w : World) (k : ℤ) (x : Expression) (i : Interval) → value w x ⊆ i
    → value w (add (integer k) x) ⊆ sum (exactly (whole k)) i
unfolding value
within_beside w k x i h = sum_within (within_refl (exactly (whole k))) h

decided_beside : (w : World) (k : ℤ) (x : Expression) (i : Interval) (s : Site) (q : ℤ) (b a : ℕ) → value w x ⊆ i
    → cell_at integers i ≡ Some q → a
    ≡ next_turn b → Leads w Exact (cell s integers (add (integer k) x) answer) b a (Ok (k +ℤ q))
decided_beside w k x i s q b a h d n = rw n (leads_cell s integers (add (integer k) x) (sum (exactly (whole k)) i)
    (k +ℤ q) answer (within_beside w k x i h)
    (cell_beside k i q d) (leads_answer refl))

far_beside : (w : World) (k : ℤ) (x : Expression) (i : Interval) (s : Site) (q : ℤ) (b a : ℕ) (u : Undecided)
    → value w x ⊆ i → cell_at integers i ≡ Some q
    → ¬ FitsSigned w64 (k +ℤ q) → AreNoBounds u.lo u.hi → u.site ≡ s → u.turn ≡ next_turn b → a ≡ next_turn b
    → Leads w (Exact {A = ℤ}) (cell s integers (add (integer k) x) answer) b a (Err (undecided_at u))
far_beside w k x i s q b a u h d f e p n m =
    rw (← p) (leads_undecided_cell integers (add (integer k) x) (sum (exactly (whole k)) i) answer a u
    (within_beside w k x i h) n m (too_far (k +ℤ q) (cell_beside k i q d) f e))

open_anywhere : (w : World) (x : Expression) (b a : ℕ) (u : Undecided) → AreNoBounds u.lo u.hi → u.turn ≡ next_turn b
    → a ≡ next_turn b
    → Leads w (Exact {A = ℤ}) (cell u.site integers x answer) b a (Err (undecided_at u))
unfolding cell_at
open_anywhere w x b a u e n m = leads_undecided_cell integers x everything answer a u (within_everything _) n m
    (between_cells refl (no_bounds e))

-- the bounds that stand for an unbounded test stay so where they are moved
stays_unbounded : (k lo hi low high : ℤ) → AreNoBounds lo hi → low ≡ lo +ℤ k *ℤ ONE → high ≡ hi +ℤ k *ℤ ONE
    → negsuc (2 ^ 127 - 1) ≤ℤ low
    → high ≤ℤ pos (2 ^ 127 - 1) → AreNoBounds low high
stays_unbounded k lo hi low high n e f p q = record {
  least = omega (arith, ints, n.least, n.greatest, e, f, p, q);
  greatest = omega (arith, ints, n.least, n.greatest, e, f, p, q);
}

open_beside : (w : World) (k : ℤ) (x : Expression) (i : Interval) (lo hi : ℤ) (b a : ℕ) (v : Undecided) → value w x ⊆ i
    → IsUndecidedCell integers i lo hi
    → AreMoved k lo hi v.lo v.hi → negsuc (2 ^ 127 - 1) ≤ℤ v.lo → v.hi ≤ℤ pos (2 ^ 127 - 1) → v.turn ≡ next_turn b
    → a ≡ next_turn b
    → Leads w (Exact {A = ℤ}) (cell v.site integers (add (integer k) x) answer) b a (Err (undecided_at v))
open_beside w k x i lo hi b a v h o (to_no_bounds e) p q n m = open_anywhere w _ b a v e n m
open_beside w k x (between c d) lo hi b a v h (between_cells o (bounds g j)) (by_whole e f) p q n m =
    leads_undecided_cell integers (add (integer k) x) (sum (exactly (whole k)) (between c d)) answer a v
    (within_beside w k x (between c d) h) n m
    (between_cells (no_cell_beside k (between c d) o) (endpoints_beside k lo hi v.lo v.hi c d e f g j))
open_beside w k x everything lo hi b a v h (between_cells o (no_bounds z)) (by_whole e f) p q n m =
    open_anywhere w _ b a v
    (stays_unbounded k lo hi v.lo v.hi z e f p q) n m
open_beside w k x i lo hi b a v h (too_far r o t z) (by_whole e f) p q n m = open_anywhere w _ b a v
    (stays_unbounded k lo hi v.lo v.hi z e f p q) n m

-- ---- by the results of the steps
pub leads_sum : {E : Type 0} {shown : E → Interval} {w : World} {x : Expression} {y : E} (k : ℤ) (s : Site) (q : ℤ)
    (r : Result ℤ Fail) (n b a : ℕ)
    → Within shown w x y → cell_at integers (shown y) ≡ Some q → a ≡ next_turn b → n ≡ a
    → IfOk r (λ z. z ≡ k +ℤ q) → IfErr r (IsTooFar s n (k +ℤ q))
    → Leads w Exact (cell s integers (add (integer k) x) answer) b a r
leads_sum {w = w} {x = x} k s q (Ok z) n b a h d c m e o = rw e (decided_beside w k x _ s q b a (lies h) d c)
leads_sum {w = w} {x = x} k s q (Err (undecided_at u)) n b a h d c m e o = far_beside w k x _ s q b a u (lies h) d o.0
    o.1 o.2 (o.3 ∙ m ∙ c) c
leads_sum k s q (Err (Void t)) n b a h d c m e o = absurd o

one_test : (s : Site) (x : Expression) → AtMost {A = ℤ} 1 (cell s integers x answer)
one_test s x = cell_at_most (λ q. answer_at_most)

-- the number of the one test that a floor makes
turn_of_floor : {w : World} {s : Site} {x : Expression} {b a : ℕ} {u : Undecided}
    → Leads w (Exact {A = ℤ}) (cell s integers x answer) b a (Err (undecided_at u)) → u.turn ≡ next_turn b
unfolding next_turn
turn_of_floor {w = w} {s = s} {x = x} l =
    let t = leads_stop_at l in
    let low = from_one t.makes in
    let high = few_tests w 1 t.number _ t.sides (one_test s x) t.makes in
    omega (arith, t.turn, low, high)

pub leads_failing : {E : Type 0} {shown : E → Interval} {w : World} {x : Expression} {y : E} (k : ℤ) (s : Site)
    (f g : Fail) (b a : ℕ) → Within shown w x y
    → Leads w (Exact {A = ℤ}) (cell s integers x answer) b a (Err f) → a ≡ next_turn b
    → IsUndecidedFloor (shown y) s f → IsBeside k f g → AreOf128Bits g
    → Leads w (Exact {A = ℤ}) (cell s integers (add (integer k) x) answer) b a (Err g)
leads_failing {w = w} {x = x} k s (undecided_at u) (undecided_at v) b a h l c o m r =
    let same : v.site ≡ s = m.1 ∙ o.1 in
    rw (← same) (open_beside w k x _ u.lo u.hi b a v (lies h) o.0 m.2 r.0 r.1 (m.0 ∙ turn_of_floor l) c)
leads_failing k s (undecided_at u) (Void t) b a h l c o m r = absurd m
leads_failing k s (Void t) g b a h l c o m r = absurd o

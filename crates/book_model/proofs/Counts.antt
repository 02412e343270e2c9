-- The count of tests follows from what a call says of its program, and from how many tests that makes at most.
use Rattle.std.specs.Prelude.{ℕ, zero, ℤ, ◌+◌, ◌≤◌, Bool, Option, Some, None, Result}
use Rattle.std.proofs.Common.{suc, arith}
use Rattle.exact_math.specs.Interval.{Interval, everything, IsProper}
use Rattle.exact_math.proofs.Intervals.{within_refl}
use Rattle.book_model.specs.declared.fail.Fail.{Fail}
use Rattle.book_model.specs.declared.site.Site.{Site}
use Rattle.book_model.specs.numbers.Depth.{DEPTH}
use Rattle.book_model.specs.numbers.Expressions.{Expression, World, argument, value}
use Rattle.book_model.specs.numbers.Relations.{Within, Lies}
use Rattle.book_model.specs.programs.Leading.{next_turn, Reports, passes, answers, stops, stops_early, voids, Leads}
use Rattle.book_model.specs.programs.Programs.{Grid, cell_at, compare_at, Program, Sides, Reply, Run, answered, voided}
use Rattle.book_model.specs.programs.Programs.{undecided, decided, after_cell, after_compare, run, AtMost}
use Rattle.book_model.specs.programs.Programs.{answer_at_most, void_at_most, cell_at_most, compare_at_most}

-- the run makes at most this many tests
data IsShort {A : Type 0} : ℕ → Run A → Type 0 where
  short_answered : {n : ℕ} {a : A} → IsShort n (answered a)
  short_voided : {n : ℕ} {s : Site} → IsShort n (voided s)
  short_undecided : {n : ℕ} {s : Site} {i : Sides} → IsShort (suc n) (undecided s i)
  short_decided : {n : ℕ} {s : Site} {i : Sides} {r : Reply} {rest : Run A} → IsShort n rest
      → IsShort (suc n) (decided s i r rest)

short_cell : {A : Type 0} (n : ℕ) (s : Site) (g : Grid) (i : Interval) (o : Option ℤ) (next : ℤ → Run A)
    → ((q : ℤ) → IsShort n (next q))
    → IsShort (suc n) (after_cell s g i o next)
unfolding after_cell
short_cell n s g i None next h = short_undecided
short_cell n s g i (Some q) next h = short_decided (h q)

short_compare : {A : Type 0} (n : ℕ) (s : Site) (i j : Interval) (o : Option Bool) (next : Bool → Run A)
    → ((t : Bool) → IsShort n (next t))
    → IsShort (suc n) (after_compare s i j o next)
unfolding after_compare
short_compare n s i j None next h = short_undecided
short_compare n s i j (Some t) next h = short_decided (h t)

short_run : {A : Type 0} (w : World) {n : ℕ} {p : Program A} → AtMost n p → IsShort n (run w p)
unfolding run
short_run w answer_at_most = short_answered
short_run w void_at_most = short_voided
short_run w (cell_at_most {n = n} {s = s} {g = g} {x = x} {next = next} h) =
    short_cell n s g (value w x) (cell_at g (value w x)) (λ q. run w (next q)) (λ q. short_run w (h q))
short_run w (compare_at_most {n = n} {s = s} {x = x} {y = y} {next = next} h) =
    short_compare n s (value w x) (value w y) (compare_at (value w x) (value w y)) (λ t. run w (next t))
    (λ t. short_run w (h t))

turn_after : (b : ℕ) → next_turn b ≤ b + 1
unfolding next_turn
turn_after b = omega arith

reports_counted : {A T : Type 0} {R : A → T → Type 0} {r : Run A} {b a n : ℕ} {t : Result T Fail} → Reports R r b a t
    → IsShort n r → a ≤ b + n
reports_counted (answers h) k = omega arith
reports_counted voids k = omega arith
reports_counted {b = b} (stops e d c) short_undecided = omega (arith, d, turn_after b)
reports_counted {b = b} (stops_early e d c) (short_decided k) = omega (arith, d, turn_after b)
reports_counted {b = b} (passes h) (short_decided k) = omega (arith, reports_counted h k, turn_after b)

-- a call whose result tells of a program adds no more tests than the program makes at most
pub counted : {A T : Type 0} {w : World} {R : A → T → Type 0} {p : Program A} {b a n : ℕ} {t : Result T Fail}
    → Leads w R p b a t → AtMost n p → a ≤ b + n
counted {w = w} h k = reports_counted h.reports (short_run w k)

-- a world without arguments
abbrev empty_world : World
empty_world = record { depth = DEPTH; arguments = λ k. everything; proper = λ k. tt }

-- ---- for calls with enclosed arguments: in one world the arguments are what their enclosures show
-- the first argument is what one enclosure shows, the second what another, and so on to the fourth
abbrev of_four : {E : Type 0} (e f g h : E) → ℕ → E
of_four e f g h zero = e
of_four e f g h (suc zero) = f
of_four e f g h (suc (suc zero)) = g
of_four e f g h (suc (suc (suc k))) = h

abbrev shown_world : {E : Type 0} (shown : E → Interval) (proper : (e : E) → IsProper (shown e)) (e f g h : E) → World
shown_world shown proper e f g h =
    record { depth = DEPTH; arguments = λ k. shown (of_four e f g h k); proper = λ k. proper (of_four e f g h k) }

holds_shown : {E : Type 0} (shown : E → Interval) (proper : (e : E) → IsProper (shown e)) (e f g h : E) (k : ℕ)
    → Within shown (shown_world shown proper e f g h) (argument k) (of_four e f g h k)
unfolding Lies value
holds_shown shown proper e f g h k = record { deep = omega arith; inside = within_refl _ }

module _ {E A T : Type 0} {shown : E → Interval} {b a n : ℕ} {t : Result T Fail} (R : World → A → T → Type 0)
    (proper : (e : E) → IsProper (shown e)) where
  -- of one enclosed argument
  pub counted_of_one : (p : Expression → Program A) (e : E) → ((w : World) (x : Expression) → Within shown w x e
      → Leads w (R w) (p x) b a t)
      → ((x : Expression) → AtMost n (p x)) → a ≤ b + n
  counted_of_one p e h k = counted (h _ _ (holds_shown shown proper e e e e 0)) (k _)

  -- of two
  pub counted_of_two : (p : Expression → Expression → Program A) (e f : E)
      → ((w : World) (x y : Expression) → Within shown w x e → Within shown w y f → Leads w (R w) (p x y) b a t)
      → ((x y : Expression) → AtMost n (p x y)) → a ≤ b + n
  counted_of_two p e f h k = counted (h _ _ _ (holds_shown shown proper e f f f 0) (holds_shown shown proper e f f f 1))
      (k _ _)

  -- of three
  pub counted_of_three : (p : Expression → Expression → Expression → Program A) (e f g : E)
      → ((w : World) (x y z : Expression) → Within shown w x e → Within shown w y f → Within shown w z g
      → Leads w (R w) (p x y z) b a t)
      → ((x y z : Expression) → AtMost n (p x y z)) → a ≤ b + n
  counted_of_three p e f g h k =
      counted (h _ _ _ _ (holds_shown shown proper e f g g 0) (holds_shown shown proper e f g g 1)
      (holds_shown shown proper e f g g 2)) (k _ _ _)

  -- of four
  pub counted_of_four : (p : Expression → Expression → Expression → Expression → Program A) (e f g i : E)
      → ((w : World) (x y z u : Expression) → Within shown w x e → Within shown w y f → Within shown w z g
      → Within shown w u i
      → Leads w (R w) (p x y z u) b a t)
      → ((x y z u : Expression) → AtMost n (p x y z u)) → a ≤ b + n
  counted_of_four p e f g i h k =
      counted (h _ _ _ _ _ (holds_shown shown proper e f g i 0) (holds_shown shown proper e f g i 1)
      (holds_shown shown proper e f g i 2)
      (holds_shown shown proper e f g i 3)) (k _ _ _ _)

-- of no enclosed argument
pub counted_of_none : {A T : Type 0} {b a n : ℕ} {t : Result T Fail} (R : World → A → T → Type 0) (p : Program A)
    → ((w : World) → DEPTH ≤ w.depth → Leads w (R w) p b a t) → AtMost n p → a ≤ b + n
counted_of_none R p h k = counted (h empty_world (omega arith)) k

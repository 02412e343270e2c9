-- What the result of a call says of the program that it computes.
use Rattle.std.specs.Prelude.{◌≡◌, ℕ, ℤ, pos, negsuc, ◌+◌, ◌-◌, ◌^◌, min, Some, None, Result, Ok, Err, FitsSigned}
use Rattle.std.specs.Int.{w64}
use Rattle.exact_math.specs.Fraction.{Fraction, ◌≈◌}
use Rattle.exact_math.specs.Interval.{Interval, everything, between, ◌⊆◌, hull}
use Rattle.book_model.specs.declared.site.Site.{Site}
use Rattle.book_model.specs.declared.fail.Undecided.{Undecided}
use Rattle.book_model.specs.declared.fail.Fail.{Fail}
use Rattle.book_model.specs.declared.fail.Fail.TheVariants.{Undecided as undecided_at, Void}
use Rattle.book_model.specs.numbers.Expressions.{Expression, World, argument}
use Rattle.book_model.specs.programs.Programs.{Grid, cell_at, compare_at, Program, Sides, one_side, two_sides, Reply}
use Rattle.book_model.specs.programs.Programs.{Run, answered, voided, undecided, decided, run}

-- a number in units of 2^-56
abbrev pub units_of_56 : ℤ → Fraction
units_of_56 n = record { num = n; below = 2 ^ 56 - 1 }

-- the bounds that stand for an unbounded test: the least and the greatest number of 128 bits
pub record AreNoBounds (lo hi : ℤ) : Type 0 where
  pub least : lo ≡ negsuc (2 ^ 127 - 1)
  pub greatest : hi ≡ pos (2 ^ 127 - 1)

-- two numbers in units of 2^-56 are the bounds of an interval
pub data AreEndpoints : ℤ → ℤ → Interval → Type 0 where
  bounds : {lo hi : ℤ} {a b : Fraction} → units_of_56 lo ≈ a → units_of_56 hi ≈ b → AreEndpoints lo hi (between a b)
  no_bounds : {lo hi : ℤ} → AreNoBounds lo hi → AreEndpoints lo hi everything

-- A cell test is undecided at the bounds of an enclosure: the enclosure lies in no one cell, and these are its bounds;
-- or its cell is a number outside 64 bits.
pub data IsUndecidedCell (g : Grid) (i : Interval) (lo hi : ℤ) : Type 0 where
  between_cells : cell_at g i ≡ None → AreEndpoints lo hi i → IsUndecidedCell g i lo hi
  too_far : (q : ℤ) → cell_at g i ≡ Some q → ¬ FitsSigned w64 q → AreNoBounds lo hi → IsUndecidedCell g i lo hi

-- A comparison is undecided at the bounds of two enclosures: neither answer is decided, and these are the bounds of
-- their hull.
pub record IsUndecidedComparison (i j : Interval) (lo hi : ℤ) : Type 0 where
  pub open_there : compare_at i j ≡ None
  pub endpoints : AreEndpoints lo hi (hull i j)

-- a test is undecided for enclosures that hold its sides
pub data IsOpen : Sides → ℤ → ℤ → Type 0 where
  open_cell : {g : Grid} {i : Interval} {lo hi : ℤ} (j : Interval) → i ⊆ j → IsUndecidedCell g j lo hi
      → IsOpen (one_side g i) lo hi
  undecided_comparison : {i j : Interval} {lo hi : ℤ} (k l : Interval) → i ⊆ k → j ⊆ l → IsUndecidedComparison k l lo hi
      → IsOpen (two_sides i j) lo hi

-- the answers of tests are numbers that the code has too
abbrev pub Exact : {A : Type 0} → A → A → Type 0
Exact q k = q ≡ k

-- the count of tests after one more; it stops at its greatest number
unfoldable pub next_turn : ℕ → ℕ
next_turn b = min (b + 1) (2 ^ 32 - 1)

-- What a result says of a run, where the count of tests was b at its beginning and is a at the end: an answer is
-- the leaf of the same tests with the same answers, an undecided test is one that the run makes, with its number
-- and within its bounds, and a void is the run's. The count has grown by the tests that were made.
pub data Reports {A T : Type 0} (R : A → T → Type 0) : Run A → ℕ → ℕ → Result T Fail → Type 0 where
  passes : {s : Site} {i : Sides} {r : Reply} {rest : Run A} {b a : ℕ} {t : Result T Fail}
      → Reports R rest (next_turn b) a t
      → Reports R (decided s i r rest) b a t
  answers : {v : A} {e : T} {b : ℕ} → R v e → Reports R (answered v) b b (Ok e)
  stops : {i : Sides} {b a : ℕ} {u : Undecided} → u.turn ≡ next_turn b → a ≡ next_turn b → IsOpen i u.lo u.hi
      → Reports R (undecided u.site i) b a (Err (undecided_at u))
  stops_early : {i : Sides} {r : Reply} {rest : Run A} {b a : ℕ} {u : Undecided} → u.turn ≡ next_turn b
      → a ≡ next_turn b → IsOpen i u.lo u.hi
      → Reports R (decided u.site i r rest) b a (Err (undecided_at u))
  voids : {s : Site} {b : ℕ} → Reports R (voided s) b b (Err (Void s))

-- what the result of a call says of its program, in a world
pub record Leads {A T : Type 0} (w : World) (R : A → T → Type 0) (p : Program A) (b a : ℕ) (t : Result T Fail) : Type 0
  where
    pub reports : Reports R (run w p) b a t

-- what is left of a program that began at turn b is q, at turn m
pub record Continues {A T : Type 0} (w : World) (R : A → T → Type 0) (p : Program A) (b : ℕ) (q : Program A)
    (m : ℕ) : Type 0 where
  pub rest : (a : ℕ) (t : Result T Fail) → Leads w R q m a t → Leads w R p b a t

-- the value that a run ends in, or another
unfoldable pub leaf_of : {A : Type 0} → A → Run A → A
leaf_of d (answered v) = v
leaf_of d (voided s) = d
leaf_of d (undecided s i) = d
leaf_of d (decided s i r rest) = leaf_of d rest

-- the expression that a program ends in
unfoldable pub leaf : World → Program Expression → Expression
leaf w p = leaf_of (argument 0) (run w p)

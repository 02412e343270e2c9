-- Formulas as programs of tests, and their runs.
use Rattle.std.specs.Prelude.{ℕ, suc, ℤ, pos, ◌+ℤ◌, ◌*ℤ◌, ◌-◌, Bool, true, false, not, cond, Option, Some, None}
use Rattle.std.specs.Ordering.{int_eq}
use Rattle.exact_math.specs.Fraction.{Fraction, ◌≤F◌, ◌<F◌, whole, floor_quotient, floor, is_at_most}
use Rattle.exact_math.specs.Interval.{Interval, everything, between, ◌⊆◌}
use Rattle.book_model.specs.declared.site.Site.{Site}
use Rattle.book_model.specs.calendars.Gregorian.{first_day, year_of_day}
use Rattle.book_model.specs.numbers.Expressions.{Expression, World, value}

-- where a cell test cuts the line: at the whole numbers, at the multiples of a modulus, or at the first days of
-- the Gregorian years
pub data Grid : Type 0 where
  integers : Grid
  multiples : (modulus : ℕ) → Grid
  years : Grid

-- the cell in which a number falls
unfoldable pub cell_of : Grid → Fraction → ℤ
cell_of integers a = floor a
cell_of (multiples m) a = floor_quotient (floor a) (m - 1)
cell_of years a = year_of_day (floor a)

-- where a cell begins
unfoldable pub threshold : Grid → ℤ → Fraction
threshold integers q = whole q
threshold (multiples m) q = whole (pos (suc (m - 1)) *ℤ q)
threshold years q = whole (first_day q)

-- a number falls in the cell that begins at or below it, the next one beginning above it
pub record CellsCut (g : Grid) : Type 0 where
  pub begun : (a : Fraction) → threshold g (cell_of g a) ≤F a
  pub not_over : (a : Fraction) → a <F threshold g (cell_of g a +ℤ pos 1)

abbrev pub when : {A : Type 0} → Bool → A → Option A
when true a = Some a
when false a = None

-- the cell in which an interval lies whole, if there is one
unfoldable pub cell_at : Grid → Interval → Option ℤ
cell_at g everything = None
cell_at g (between a b) = when (int_eq (cell_of g a) (cell_of g b)) (cell_of g a)

-- whether the numbers of one interval are below those of another, where that is so of all or of none
unfoldable pub compare_at : Interval → Interval → Option Bool
compare_at everything j = None
compare_at (between a b) everything = None
compare_at (between a b) (between c d) = cond (not (is_at_most c b)) (Some true) (when (is_at_most d a) false)

-- a formula: an answer, a place where it has none, or a test and what follows from its answer
pub data Program (A : Type 0) : Type 0 where
  answer : A → Program A
  void : Site → Program A
  cell : Site → Grid → Expression → (ℤ → Program A) → Program A
  compare : Site → Expression → Expression → (Bool → Program A) → Program A

unfoldable pub bind : {A B : Type 0} → Program A → (A → Program B) → Program B
bind (answer a) f = f a
bind (void s) f = void s
bind (cell s g x next) f = cell s g x (λ q. bind (next q) f)
bind (compare s x y next) f = compare s x y (λ t. bind (next t) f)

-- the sides of a test
pub data Sides : Type 0 where
  one_side : Grid → Interval → Sides
  two_sides : Interval → Interval → Sides

-- the answer of a test
pub data Reply : Type 0 where
  in_cell : ℤ → Reply
  is_less : Bool → Reply

-- a run: its tests in order, and what it ends in. An undecided test ends it.
pub data Run (A : Type 0) : Type 0 where
  answered : A → Run A
  voided : Site → Run A
  undecided : Site → Sides → Run A
  decided : Site → Sides → Reply → Run A → Run A

unfoldable pub after_cell : {A : Type 0} → Site → Grid → Interval → Option ℤ → (ℤ → Run A) → Run A
after_cell s g i None next = undecided s (one_side g i)
after_cell s g i (Some q) next = decided s (one_side g i) (in_cell q) (next q)

unfoldable pub after_compare : {A : Type 0} → Site → Interval → Interval → Option Bool → (Bool → Run A) → Run A
after_compare s i j None next = undecided s (two_sides i j)
after_compare s i j (Some t) next = decided s (two_sides i j) (is_less t) (next t)

unfoldable pub run : {A : Type 0} → World → Program A → Run A
run w (answer a) = answered a
run w (void s) = voided s
run w (cell s g x next) = after_cell s g (value w x) (cell_at g (value w x)) (λ q. run w (next q))
run w (compare s x y next) = after_compare s (value w x) (value w y) (compare_at (value w x) (value w y))
    (λ t. run w (next t))

-- what a run ends in
pub data Outcome (A : Type 0) : Type 0 where
  valued : A → Outcome A
  void_at : Site → Outcome A
  undecided_test_at : Site → Outcome A

unfoldable pub outcome : {A : Type 0} → Run A → Outcome A
outcome (answered a) = valued a
outcome (voided s) = void_at s
outcome (undecided s i) = undecided_test_at s
outcome (decided s i r rest) = outcome rest

-- the test of a number, from 1, that a run makes: its site and its sides
pub data MakesTest {A : Type 0} : Run A → ℕ → Site → Sides → Type 0 where
  here_decided : {s : Site} {i : Sides} {r : Reply} {rest : Run A} → MakesTest (decided s i r rest) 1 s i
  here_undecided : {s : Site} {i : Sides} → MakesTest {A = A} (undecided s i) 1 s i
  later : {s t : Site} {i j : Sides} {r : Reply} {rest : Run A} {k : ℕ} → MakesTest rest k s i
      → MakesTest (decided t j r rest) (suc k) s i

-- the program makes at most this many tests, whatever their answers
pub data AtMost {A : Type 0} : ℕ → Program A → Type 0 where
  answer_at_most : {n : ℕ} {a : A} → AtMost n (answer a)
  void_at_most : {n : ℕ} {s : Site} → AtMost n (void s)
  cell_at_most : {n : ℕ} {s : Site} {g : Grid} {x : Expression} {next : ℤ → Program A} → ((q : ℤ) → AtMost n (next q))
      → AtMost (suc n) (cell s g x next)
  compare_at_most : {n : ℕ} {s : Site} {x y : Expression} {next : Bool → Program A} → ((t : Bool) → AtMost n (next t))
      → AtMost (suc n) (compare s x y next)

-- the sides of one test lie within those of another
pub data AreInner : Sides → Sides → Type 0 where
  inner_one : {g : Grid} {i j : Interval} → i ⊆ j → AreInner (one_side g i) (one_side g j)
  inner_two : {i j k l : Interval} → i ⊆ k → j ⊆ l → AreInner (two_sides i j) (two_sides k l)

-- the first run makes the tests of the second with the same answers, its sides within those of the second, and
-- may go on where the second stops undecided
pub data Refines {A : Type 0} : Run A → Run A → Type 0 where
  same_answer : {a : A} → Refines (answered a) (answered a)
  same_void : {s : Site} → Refines (voided s) (voided s)
  still_undecided : {s : Site} {i j : Sides} → AreInner i j → Refines (undecided s i) (undecided s j)
  now_decided : {s : Site} {i j : Sides} {r : Reply} {rest : Run A} → AreInner i j
      → Refines (decided s i r rest) (undecided s j)
  same_test : {s : Site} {i j : Sides} {r : Reply} {p q : Run A} → AreInner i j → Refines p q
      → Refines (decided s i r p) (decided s j r q)

-- The runs over some years alone, where they aren't void at the year, are the runs: an undecided test is the same on
-- both sides, a decided one goes on, and a year that isn't known is the void that the premise excludes.
use Rattle.std.specs.Prelude.{◌≡◌, ℕ, ℤ, Bool, true, false, not, ◌&&◌, if◌then◌else◌, Option, Some, None, refl}
use Rattle.std.proofs.Common.{ap, ◌∙◌}
use Rattle.book_model.specs.declared.fact.Fact.{Fact}
use Rattle.book_model.specs.declared.fact.TheConstants.{FIRST_DAY, LAST_DAY}
use Rattle.book_model.specs.declared.site.Site.{Site}
use Rattle.book_model.specs.declared.site.Site.TheVariants.{Year}
use Rattle.book_model.specs.declared.tables.TheConstants.{MILLISECONDS_OF_DAY}
use Rattle.book_model.specs.declared.version.Version.{Version}
use Rattle.book_model.specs.declared.version.Version.TheVariants.{One}
use Rattle.book_model.specs.declared.version.TheConstants.{WRITTEN}
use Rattle.exact_math.specs.Interval.{Interval}
use Rattle.book_model.specs.calendars.Versions.{fact_days_in, is_value_day}
use Rattle.book_model.specs.numbers.Expressions.{Expression, World, value, integer, scale}
use Rattle.book_model.specs.numbers.Fractions.{fraction_of}
use Rattle.book_model.specs.programs.Programs.{Grid, years, cell_at, compare_at, Program, answer, void, cell, compare}
use Rattle.book_model.specs.programs.Programs.{bind, one_side, two_sides, in_cell, is_less, Run, decided, after_cell}
use Rattle.book_model.specs.programs.Programs.{after_compare, run, outcome, void_at}
use Rattle.book_model.specs.sky.Correction.{is_between, Correction, corrections, row_in, row_of_year, year_of}
use Rattle.book_model.specs.sky.Correction.{rounded_of}
use Rattle.book_model.specs.sky.Facts.{formula_of, program_of, at_depth, run_of}
use Rattle.book_model.specs.sky.Kinds.{dt_of}
use Rattle.book_model.specs.sky.Older.{are_years, over_years, rows_in, has_correction, program_by, run_by, AreComposed}
use Rattle.book_model.specs.sky.Older.{correction_by_version, dt_by_version}
use Rattle.book_model.specs.sky.Time.{by_row, correction_of_year, correction_at}
use Rattle.book_model.proofs.OlderRows.{same_row, none_found}
use Rattle.book_model.proofs.VersionTables.{is_wider, wider_has}

-- ---- each run
stays_if : {A : Type 0} (w : World) (b : Bool) (p o : Program A)
    → ((outcome (run w o) ≡ void_at Year → ⊥) → run w o ≡ run w p)
    → (outcome (run w (if b then void Year else o)) ≡ void_at Year → ⊥) → run w (if b then void Year else o) ≡ run w p
unfolding run outcome
stays_if w true p o h k = absurd (k refl)
stays_if w false p o h k = h k

stays_cell : {A : Type 0} (s : Site) (g : Grid) (i : Interval) (o : Option ℤ) (m n : ℤ → Run A)
    → ((q : ℤ) → (outcome (m q) ≡ void_at Year → ⊥) → m q ≡ n q) → (outcome (after_cell s g i o m) ≡ void_at Year → ⊥)
    → after_cell s g i o m ≡ after_cell s g i o n
unfolding after_cell outcome
stays_cell s g i None m n h k = refl
stays_cell s g i (Some q) m n h k = ap (decided s (one_side g i) (in_cell q)) (h q k)

stays_compare : {A : Type 0} (s : Site) (i j : Interval) (o : Option Bool) (m n : Bool → Run A)
    → ((t : Bool) → (outcome (m t) ≡ void_at Year → ⊥) → m t ≡ n t)
    → (outcome (after_compare s i j o m) ≡ void_at Year → ⊥)
    → after_compare s i j o m ≡ after_compare s i j o n
unfolding after_compare outcome
stays_compare s i j None m n h k = refl
stays_compare s i j (Some t) m n h k = ap (decided s (two_sides i j) (is_less t)) (h t k)

stays : {A : Type 0} (known : ℤ → Bool) (w : World) (p : Program A)
    → (outcome (run w (over_years known p)) ≡ void_at Year → ⊥)
    → run w (over_years known p) ≡ run w p
unfolding over_years run
stays known w (answer a) k = refl
stays known w (void s) k = refl
stays known w (cell s g x next) k =
    stays_cell s g (value w x) (cell_at g (value w x)) _ (λ q. run w (next q))
    (λ q. stays_if w (are_years g && not (known q)) (next q) (over_years known (next q)) (stays known w (next q))) k
stays known w (compare s x y next) k =
    stays_compare s (value w x) (value w y) (compare_at (value w x) (value w y)) _ (λ t. run w (next t))
    (λ t. stays known w (next t)) k

-- ---- the run of a fact
stays_on : {A : Type 0} (known : ℤ → Bool) (w : World) (o t : Bool) (p : Program A) → (o ≡ true → t ≡ true)
    → (outcome (run w (if o then over_years known p else void Year)) ≡ void_at Year → ⊥)
    → run w (if o then over_years known p else void Year) ≡ run w (if t then p else void Year)
unfolding run outcome
stays_on known w false t p h k = absurd (k refl)
stays_on known w true true p h k = stays known w p k
stays_on known w true false p h k = let e : false ≡ true = h refl in absurd (cc)

-- the days of a version lie among those of which a fact may have a value
days_wider : (version : Version) → is_wider (FIRST_DAY, LAST_DAY) (fact_days_in version) ≡ true
days_wider One = refl
days_wider _ = refl

pub older_stays : (version : Version) (n : ℕ) (f : Fact) → (outcome (run_by version n f) ≡ void_at Year → ⊥)
    → run_by version n f ≡ run_of n f
unfolding run_by program_by run_of program_of
older_stays version n f k =
    stays_on (has_correction version) (at_depth n) (is_value_day version f.day) (is_between FIRST_DAY LAST_DAY f.day)
    (formula_of f.kind f.place f.day)
    (wider_has (FIRST_DAY, LAST_DAY) (fact_days_in version) f.day (days_wider version)) k

-- ---- what a formula over some years is made of
composed_if : {A B : Type 0} (b : Bool) (p : Program A) (f : A → Program B) (o : Program B) → o ≡ bind p f
    → (if b then void Year else o) ≡ bind (if b then void Year else p) f
unfolding bind
composed_if true p f o e = refl
composed_if false p f o e = e

-- formulas that go on alike after a test are one
cell_same : {A : Type 0} (s : Site) (g : Grid) (x : Expression) (m n : ℤ → Program A) → ((q : ℤ) → m q ≡ n q)
    → cell s g x m ≡ cell s g x n
cell_same s g x m n h = λ i. cell s g x (λ q. h q i)

compare_same : {A : Type 0} (s : Site) (x y : Expression) (m n : Bool → Program A) → ((t : Bool) → m t ≡ n t)
    → compare s x y m ≡ compare s x y n
compare_same s x y m n h = λ i. compare s x y (λ t. h t i)

bind_same : {A B : Type 0} (p : Program A) (f g : A → Program B) → ((a : A) → f a ≡ g a) → bind p f ≡ bind p g
bind_same p f g h = λ i. bind p (λ a. h a i)

composed : {A B : Type 0} (known : ℤ → Bool) (p : Program A) (f : A → Program B)
    → over_years known (bind p f) ≡ bind (over_years known p) (λ a. over_years known (f a))
unfolding over_years bind
composed known (answer a) f = refl
composed known (void s) f = refl
composed known (cell s g x next) f =
    cell_same s g x _ _
    (λ q. composed_if (are_years g && not (known q)) (over_years known (next q)) (λ a. over_years known (f a))
    (over_years known (bind (next q) f))
    (composed known (next q) f))
composed known (compare s x y next) f = compare_same s x y _ _ (λ t. composed known (next t) f)

all_composed : (known : ℤ → Bool) (A : Type 0) → AreComposed known A
all_composed known A = record {
  tests = λ p f. composed known p f;
  numbers = λ p f. composed known p f;
  expressions = λ p f. composed known p f;
}

pub composed_tests : (known : ℤ → Bool) → AreComposed known Bool
composed_tests known = all_composed known Bool

pub composed_numbers : (known : ℤ → Bool) → AreComposed known ℤ
composed_numbers known = all_composed known ℤ

pub composed_expressions : (known : ℤ → Bool) → AreComposed known Expression
composed_expressions known = all_composed known Expression

-- ---- ΔT by a version's rows
over_row : (known : ℤ → Bool) (y : ℤ) (o : Option Correction) → over_years known (by_row y o) ≡ by_row y o
unfolding over_years
over_row known y None = refl
over_row known y (Some row) = refl

older_at : (version : Version) (y : ℤ)
    → (if not (has_correction version y) then void Year else over_years (has_correction version) (correction_of_year y))
    ≡ correction_by_version version y
unfolding correction_of_year row_of_year
older_at version y = by (has_correction version y) refl
  where
    by : (t : Bool) → has_correction version y ≡ t
        → (if not t then void Year else over_years (has_correction version) (by_row y (row_in corrections y))) ≡ by_row
        y (row_in (rows_in version) y)
    by true h = rw (over_row (has_correction version) y (row_in corrections y), same_row version y h) refl
    by false h = rw (none_found (rows_in version) y h) refl

pub older_correction : (version : Version) (x : Expression)
    → over_years (has_correction version) (correction_at x) ≡ bind (year_of x) (λ y. correction_by_version version y)
unfolding over_years correction_at year_of bind
older_correction version x = cell_same Year years x _ _ (λ y. older_at version y)

-- what follows from ΔT, over these years, is what follows from that by the version's rows
older_then : {A : Type 0} (known : ℤ → Bool) (o : Bool) (p q : Program Expression) (f : Expression → Program A)
    → ((c : Expression) → over_years known (f c) ≡ f c) → (if not o then void Year else over_years known p) ≡ q
    → (if not o then void Year else over_years known (bind p f)) ≡ bind q f
unfolding bind
older_then known false p q f h e = rw (← e) refl
older_then known true p q f h e = rw (← e) (composed known p f ∙ bind_same (over_years known p) _ f h)

rounded_over : (known : ℤ → Bool) (x : Expression) → over_years known (rounded_of x) ≡ rounded_of x
unfolding over_years rounded_of
rounded_over known x = refl

pub older_dt : (version : Version) (d : ℤ) → over_years (has_correction version) (dt_of d) ≡ dt_by_version version d
unfolding over_years dt_of year_of bind
older_dt version d =
    cell_same Year years (integer d) _ _
    (λ y. older_then (has_correction version) (has_correction version y) (correction_of_year y)
    (correction_by_version version y)
    (λ c. rounded_of (scale (fraction_of MILLISECONDS_OF_DAY) c)) (λ c. rounded_over (has_correction version) _)
    (older_at version y))

-- ---- the version that is written
pub written_days : fact_days_in WRITTEN ≡ (FIRST_DAY, LAST_DAY)
written_days = refl

pub written_rows : rows_in WRITTEN ≡ corrections
unfolding corrections
written_rows = refl

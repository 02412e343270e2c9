-- The formulas of facts as an earlier version of certificates had them: over its rows of ΔT, and of its days. The table
-- of values of ΔT is no argument of the formulas: a formula over some rows alone is the formula in which the other
-- years are void.
use Rattle.std.specs.Prelude.{◌≡◌, ℕ, ℤ, Bool, true, false, not, ◌&&◌, if◌then◌else◌, List}
use Rattle.std.specs.List.{filter, list_any}
use Rattle.book_model.specs.declared.fact.Fact.{Fact}
use Rattle.book_model.specs.declared.site.Site.TheVariants.{Year}
use Rattle.book_model.specs.declared.tables.TheConstants.{MILLISECONDS_OF_DAY}
use Rattle.book_model.specs.declared.version.Version.{Version}
use Rattle.book_model.specs.calendars.Versions.{is_value_day, has_since}
use Rattle.book_model.specs.numbers.Expressions.{Expression, integer, scale}
use Rattle.book_model.specs.numbers.Fractions.{fraction_of}
use Rattle.book_model.specs.programs.Programs.{Grid, integers, multiples, years, Program, answer, void, cell, compare}
use Rattle.book_model.specs.programs.Programs.{bind, Run, run}
use Rattle.book_model.specs.sky.Correction.{is_between, Correction, corrections, row_in, year_of, rounded_of}
use Rattle.book_model.specs.sky.Facts.{formula_of, at_depth}
use Rattle.book_model.specs.sky.Time.{by_row}

-- whether the cells of a test are the Gregorian years
abbrev pub are_years : Grid → Bool
are_years integers = false
are_years (multiples m) = false
are_years years = true

-- a formula over some years alone: where a moment's year isn't known it has no value, as where the table has no row of
-- it
unfoldable pub over_years : {A : Type 0} → (ℤ → Bool) → Program A → Program A
over_years known (answer a) = answer a
over_years known (void s) = void s
over_years known (cell s g x next) = cell s g x (λ q. if are_years g && not (known q) then void Year
    else over_years known (next q))
over_years known (compare s x y next) = compare s x y (λ t. over_years known (next t))

-- the rows of ΔT that a version had
abbrev pub rows_in : Version → List Correction
rows_in version = filter (λ row. has_since version row.since) corrections

-- whether some rows have a year
abbrev pub have_year : List Correction → ℤ → Bool
have_year rows y = list_any (λ row. is_between row.first row.last y) rows

-- whether a version had ΔT of a year
abbrev pub has_correction : Version → ℤ → Bool
has_correction version y = have_year (rows_in version) y

-- the formula of a fact as a version had it
unfoldable pub program_by : Version → Fact → Program ℤ
program_by version f = if is_value_day version f.day then over_years (has_correction version)
    (formula_of f.kind f.place f.day) else void Year

-- the run of a fact at a depth as a version had it
unfoldable pub run_by : Version → ℕ → Fact → Run ℤ
run_by version n f = run (at_depth n) (program_by version f)

-- ---- what a formula over some years is
-- a formula and what follows from its answer are each over these years
abbrev pub IsComposed : (ℤ → Bool) → (A B : Type 0) → Type 0
IsComposed known A B = (p : Program A) (f : A → Program B) → over_years known (bind p f) ≡ bind (over_years known p)
    (λ a. over_years known (f a))

-- the same whatever is answered behind the formula: formulas answer tests, numbers and expressions
pub record AreComposed (known : ℤ → Bool) (A : Type 0) : Type 0 where
  pub tests : IsComposed known A Bool
  pub numbers : IsComposed known A ℤ
  pub expressions : IsComposed known A Expression

-- ΔT of a year by the rows that a version had; in a year that none of them has there is no formula
abbrev pub correction_by_version : Version → ℤ → Program Expression
correction_by_version version y = by_row y (row_in (rows_in version) y)

-- ΔT of a day's year by these rows, in milliseconds
abbrev pub dt_by_version : Version → ℤ → Program ℤ
dt_by_version version d =
    bind (year_of (integer d)) λ y.
    bind (correction_by_version version y) λ c.
    rounded_of (scale (fraction_of MILLISECONDS_OF_DAY) c)

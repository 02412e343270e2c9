-- Values of ΔT of three days, which the tests take as right answers: they are polynomials of a year, without
-- series, so they are the same at every depth.
use Rattle.std.proofs.Common.{◌≡◌, true, ℕ, ℤ, pos, refl, ◌<ℤ◌, arith}
use Rattle.std.proofs.lemmas.Int.{ints}
use Rattle.book_model.specs.Fraction.{plus, times, smaller, larger, is_at_most}
use Rattle.book_model.specs.Interval.{sum, product, least, greatest}
use Rattle.book_model.specs.calendars.Gregorian.{year_of_day, first_day}
use Rattle.book_model.specs.declared.fact.Fact.{Fact}
use Rattle.book_model.specs.declared.fact.Kind.TheVariants.{Dt}
use Rattle.book_model.specs.declared.fact.TheConstants.{FIRST_DAY, LAST_DAY}
use Rattle.book_model.specs.declared.site.Site.TheVariants.{Year}
use Rattle.book_model.specs.numbers.Expressions.{value}
use Rattle.book_model.specs.sky.Correction.{corrections, is_between, row_of_year, year_of, rounded_of, seconds_of}
use Rattle.book_model.specs.sky.Correction.{polynomial_of, polynomial_to, int_power}
use Rattle.book_model.specs.sky.Facts.{at_depth, formula_of, program_of, run_of, IsTrueWith}
use Rattle.book_model.specs.sky.Kinds.{dt_of}
use Rattle.book_model.specs.sky.Time.{correction_by, correction_of_year}
use Rattle.book_model.specs.programs.Programs.{run, outcome, valued, bind, after_cell, cell_at, cell_of}
use Rattle.book_model.proofs.Corrections.{below_no}
use Rattle.oracle_core.specs.Answers.{IsRightAnswer}
use Rattle.oracle_core.specs.declared.evaluator.Answer.TheVariants.{Value, Void}

-- ΔT of a day, in milliseconds, at every depth
abbrev ComesTo : ℤ → ℤ → Type 0
ComesTo day v = (n : ℕ) → outcome (run (at_depth n) (dt_of day)) ≡ valued v

runs : ComesTo (pos 726592) (pos 56895) × ComesTo (pos 738926) (pos 73871) × ComesTo (pos 738927) (pos 73871)
unfolding
    dt_of run outcome bind after_cell cell_at cell_of value year_of rounded_of seconds_of polynomial_of polynomial_to
    int_power correction_by
    correction_of_year corrections row_of_year year_of_day first_day sum product least greatest plus times smaller
    larger is_at_most
runs = (λ n. refl, λ n. refl, λ n. refl)

-- a fact is true with the ΔT of its day
by_run : (f : Fact) (day v : ℤ) → f.kind ≡ Dt → f.day ≡ day → is_between FIRST_DAY LAST_DAY day ≡ true → ComesTo day v
    → IsTrueWith f v
unfolding program_of run_of formula_of
by_run f day v kind same within known = record { at_each_depth = λ n deep. rw (kind, same, within) (known n) }

pub right_1990 : (f : Fact) → f.kind ≡ Dt → f.day ≡ pos 726592 → IsRightAnswer f (Value (pos 56895))
right_1990 f kind day = (
  by_run f (pos 726592) (pos 56895) kind day refl runs.0,
  (omega (arith, ints), omega (arith, ints)),
)

pub right_2024 : (f : Fact) → f.kind ≡ Dt → f.day ≡ pos 738926 → IsRightAnswer f (Value (pos 73871))
right_2024 f kind day = (
  by_run f (pos 738926) (pos 73871) kind day refl runs.1,
  (omega (arith, ints), omega (arith, ints)),
)

pub right_next_day : (f : Fact) → f.kind ≡ Dt → f.day ≡ pos 738927 → IsRightAnswer f (Value (pos 73871))
right_next_day f kind day = (
  by_run f (pos 738927) (pos 73871) kind day refl runs.2,
  (omega (arith, ints), omega (arith, ints)),
)

-- a fact of an early day is void
pub right_early : (f : Fact) → f.day <ℤ FIRST_DAY → IsRightAnswer f (Void Year)
unfolding program_of run_of run outcome
right_early f early = record { at_each_depth = λ n deep. rw (below_no FIRST_DAY LAST_DAY f.day early) refl }

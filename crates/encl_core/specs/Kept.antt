-- What a trail caches of its run.
use denote.Struct.Props as facts
use Rattle.std.specs.Coded.{Unit-prop}
use Rattle.std.specs.Prelude.{◌≡◌, ℕ, zero, suc, ◌≤◌, ◌+◌, ◌^◌, ℤ, pos, negsuc, ◌≤ℤ◌, Bool, true, false, ◌+ℤ◌}
use Rattle.book_model.specs.Interval.{Interval, everything, between, ◌⊆◌, AreWithin}
use Rattle.book_model.specs.numbers.Bounds.{bounded, IsNarrow}
use Rattle.book_model.specs.numbers.Depth.{DEPTH}
use Rattle.book_model.specs.numbers.Expressions.{Expression, World, value}
use Rattle.book_model.specs.programs.Leading.{units_of_56, leaf}
use Rattle.book_model.specs.declared.new_moon_tables.TheConstants.{FIRST_RECENT_MOON, LAST_RECENT_MOON}
use Rattle.book_model.specs.programs.Widths.{IsWithin, IsAbout, IsDated, IsFrom}
use Rattle.book_model.specs.programs.Programs.{Program, Run, answered, voided, undecided, decided, run}
use Rattle.book_model.specs.sky.NewMoons.{new_moon_of}
use Rattle.book_model.specs.sky.Time.{correction_of_year}
use Rattle.encl_core.specs.declared.asked.Asked.{Asked}
use Rattle.encl_core.specs.declared.asked.Asked.TheVariants.{NewMoon, Correction}
use Rattle.encl_core.specs.declared.span.Span.{Span}
use Rattle.book_model.specs.declared.time_tables.TheConstants.{RECENT_START, TABLE_END}

-- the interval between the endpoints of a span
abbrev pub shown_span : Span → Interval
shown_span s = between (units_of_56 s.lo) (units_of_56 s.hi)

-- whether a run makes so many tests, decides them all, and answers
unfoldable pub answers_after : {A : Type 0} → ℕ → Run A → Bool
answers_after zero (answered v) = true
answers_after zero (voided s) = false
answers_after zero (undecided s i) = false
answers_after zero (decided s i r rest) = false
answers_after (suc n) (answered v) = false
answers_after (suc n) (voided s) = false
answers_after (suc n) (undecided s i) = false
answers_after (suc n) (decided s i r rest) = answers_after n rest

-- at every depth from the least on, a program makes so many tests, decides them all, and ends in a value that a span
-- holds
pub record IsKept (n : ℕ) (p : Program Expression) (s : Span) : Type 0 where
  pub answers : (w : World) → DEPTH ≤ w.depth → answers_after n (run w p) ≡ true
  pub holds : (w : World) → DEPTH ≤ w.depth → value w (leaf w p) ⊆ shown_span s

-- at the scale 2^-56 a span lies within so many times 2^-32 of 0, and is at most so wide
pub record IsKeptAbout (size width bits : ℕ) (s : Span) : Type 0 where
  pub about : bits ≡ 56 → IsAbout size width (shown_span s)

-- the new moon of a number is at most so wide, where its year has ΔT: half of 2^-34 and a little more; recent ones lie
-- where recent moments do
pub record IsMoonWithin (number : ℤ) (bits : ℕ) (s : Span) : Type 0 where
  pub about : negsuc 6299 ≤ℤ number → number ≤ℤ pos 55724 → bits ≡ 56
      → IsDated 1 (2 ^ 29 + 2 ^ 24 + 2 ^ 17) (shown_span s)
  pub recent : FIRST_RECENT_MOON ≤ℤ number → number ≤ℤ LAST_RECENT_MOON → bits ≡ 56
      → IsFrom RECENT_START (TABLE_END +ℤ pos 1) (2 ^ 29 + 2 ^ 24 + 2 ^ 17) (shown_span s)

-- ---- what is asked: its program, how many tests that makes, and how wide it is at most
abbrev pub program_of : Asked → Program Expression
program_of (NewMoon number) = new_moon_of number
program_of (Correction year) = correction_of_year year

abbrev pub tests_of : Asked → ℕ
tests_of (NewMoon number) = 1
tests_of (Correction year) = 0

abbrev pub IsKeptWithin : Asked → ℕ → Span → Type 0
IsKeptWithin (NewMoon number) bits s = IsMoonWithin number bits s
IsKeptWithin (Correction year) bits s = IsKeptAbout (2 ^ 30) (2 ^ 14) bits s

-- ---- a span is cached in one way at most, so it may be a ghost field
endpoints_prop : (i j : Interval) → IsProp (AreWithin i j)
endpoints_prop everything everything = Unit-prop
endpoints_prop (between a b) everything = Unit-prop
endpoints_prop everything (between c d) = λ x y. absurd x
endpoints_prop (between a b) (between c d) = Prim.hlevel facts.props

within_prop : (i j : Interval) → IsProp (i ⊆ j)
within_prop i j = Prim.hlevel endpoints_prop

pub IsKept-prop : (n : ℕ) (p : Program Expression) (s : Span) → IsProp (IsKept n p s)
IsKept-prop n p s = Prim.hlevel (within_prop, facts.props)

spans_prop : (low high : ℤ) (width : ℕ) (s : Span) → IsProp (IsNarrow 0 (bounded low high 0 width) (shown_span s))
unfolding IsNarrow
spans_prop low high width s = Prim.hlevel facts.props

about_prop : (low high : ℤ) (width : ℕ) (s : Span) → IsProp (IsWithin low high width (shown_span s))
about_prop low high width s = Prim.hlevel spans_prop

pub IsKeptAbout-prop : (size width bits : ℕ) (s : Span) → IsProp (IsKeptAbout size width bits s)
IsKeptAbout-prop size width bits s = Prim.hlevel (about_prop, facts.props)

pub IsMoonWithin-prop : (number : ℤ) (bits : ℕ) (s : Span) → IsProp (IsMoonWithin number bits s)
IsMoonWithin-prop number bits s = Prim.hlevel (about_prop, facts.props)

pub IsKeptWithin-prop : (asked : Asked) (bits : ℕ) (s : Span) → IsProp (IsKeptWithin asked bits s)
IsKeptWithin-prop (NewMoon number) bits s = IsMoonWithin-prop number bits s
IsKeptWithin-prop (Correction year) bits s = IsKeptAbout-prop (2 ^ 30) (2 ^ 14) bits s

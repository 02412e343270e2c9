-- How wide the results of calls are: what an answer keeps, and how far apart the bounds of an undecided test lie at
-- most.
use Rattle.std.specs.Prelude.{◌≡◌, ℕ, ◌*◌, ◌^◌, ◌≤◌, ℤ, pos, neg_ℤ, ◌+ℤ◌, ◌-ℤ◌, ◌*ℤ◌, ◌≤ℤ◌, Result, Ok, Err, IfOk}
use Rattle.std.specs.Prelude.{IfErr}
use Rattle.exact_math.specs.Interval.{Interval}
use Rattle.book_model.specs.declared.site.Site.{Site}
use Rattle.book_model.specs.declared.site.Site.TheVariants.{Bisect, BisectEnd}
use Rattle.book_model.specs.declared.fail.Undecided.{Undecided}
use Rattle.book_model.specs.declared.fail.Fail.{Fail}
use Rattle.book_model.specs.declared.fail.Fail.TheVariants.{Undecided as undecided_at, Void}
use Rattle.book_model.specs.declared.fact.TheConstants.{FIRST_FACT_DAY, LAST_FACT_DAY}
use Rattle.book_model.specs.declared.time_tables.TheConstants.{TABLE_START, TABLE_END, FIRST_CENTURY, LAST_CENTURY}
use Rattle.book_model.specs.declared.time_tables.TheConstants.{RECENT_START, FIRST_RECENT_HALF_CENTURY}
use Rattle.book_model.specs.numbers.Bounds.{Bound, bounded, IsNarrow}

-- how far apart the bounds of an undecided test lie at most at a site, in 2^-64: a 2^24th at the tests of a bisection,
-- and a 2^20th elsewhere
abbrev pub most_apart : Site → ℕ
most_apart Bisect = 2 ^ 40
most_apart BisectEnd = 2 ^ 40
most_apart s = 2 ^ 44

-- a failure is close: it is no test, or its bounds, in units of 2^-56, are no further apart than that
pub data IsClose : Fail → Type 0 where
  close_void : {s : Site} → IsClose (Void s)
  close_test : {u : Undecided} → ((u.hi -ℤ u.lo) *ℤ pos 256) ≤ℤ pos (most_apart u.site) → IsClose (undecided_at u)

-- an interval lies from low to high, in units of 2^-32, and is at most so wide, in 2^-64
pub record IsWithin (low high : ℤ) (width : ℕ) (i : Interval) : Type 0 where
  pub kept : IsNarrow 0 (bounded low high 0 width) i

-- an interval lies within so many times 2^-32 of 0, and is at most so wide
abbrev pub IsAbout : (size width : ℕ) → Interval → Type 0
IsAbout size width i = IsWithin (neg_ℤ (pos size)) (pos size) width i

-- a moment (R.D.): within 2^26 days of day 0, and at most so wide
abbrev pub IsMoment : ℕ → Interval → Type 0
IsMoment v i = IsAbout (2 ^ 58) v i

-- ΔT: within a fourth of a day of 0, and at most so wide
abbrev pub IsCorrection : ℕ → Interval → Type 0
IsCorrection v i = IsAbout (2 ^ 30) v i

-- ---- moments from one day to another
-- a moment from the beginning of one day to that of another, and at most so wide
abbrev pub IsFrom : (first last : ℤ) → (width : ℕ) → Interval → Type 0
IsFrom first last v i = IsWithin (first *ℤ pos (2 ^ 32)) (last *ℤ pos (2 ^ 32)) v i

-- a moment from the beginning of a day on, within 2^26 days of day 0, and at most so wide
abbrev pub IsSince : (first : ℤ) → (width : ℕ) → Interval → Type 0
IsSince first v i = IsWithin (first *ℤ pos (2 ^ 32)) (pos (2 ^ 58)) v i

-- a moment of the years of which ΔT is known, moved by at most so many days, and at most so wide
abbrev pub IsDated : (margin width : ℕ) → Interval → Type 0
IsDated margin v i = IsFrom (TABLE_START -ℤ pos margin) (TABLE_END +ℤ pos margin) v i

-- ---- the days of which ΔT is known
-- where they begin and end, so many days beside them, in 2^-32
abbrev pub table_from : (margin : ℕ) → ℤ
table_from margin = (TABLE_START -ℤ pos margin) *ℤ pos (2 ^ 32)

abbrev pub table_to : (margin : ℕ) → ℤ
table_to margin = (TABLE_END +ℤ pos margin) *ℤ pos (2 ^ 32)

-- the bound of a moment of them, moved by at most so many days
abbrev pub table_days : (margin slope slack : ℕ) → Bound
table_days margin slope slack = bounded (table_from margin) (table_to margin) slope slack

-- from where to where the centuries from noon of 1 January 2000 to a moment of them lie
abbrev pub centuries_from : ℤ
centuries_from = FIRST_CENTURY *ℤ pos (2 ^ 32)

abbrev pub centuries_to : ℤ
centuries_to = LAST_CENTURY *ℤ pos (2 ^ 32)

-- their bound
abbrev pub table_centuries : (slope slack : ℕ) → Bound
table_centuries slope slack = bounded centuries_from centuries_to slope slack

abbrev pub AreCenturies : ℕ → Interval → Type 0
AreCenturies v i = IsWithin centuries_from centuries_to v i

-- ---- recent moments
-- the day from which on a moment is recent, so many days later, in 2^-32
abbrev pub recent_from : (later : ℤ) → ℤ
recent_from later = (RECENT_START +ℤ later) *ℤ pos (2 ^ 32)

-- the half centuries from noon of 1 January 2000 to the first of them
abbrev pub recent_centuries_from : ℤ
recent_centuries_from = FIRST_RECENT_HALF_CENTURY *ℤ pos (2 ^ 31)

-- ---- others
-- a whole number within 40,000,000 of 0, as the days are of which a fact may be asked
abbrev pub IsSmall : ℤ → Type 0
IsSmall n = (FIRST_FACT_DAY ≤ℤ n) × (n ≤ℤ LAST_FACT_DAY)

-- an interval lies from 0 to m, and is at most so wide
abbrev pub IsUpTo : (m width : ℕ) → Interval → Type 0
IsUpTo m width i = IsWithin (pos 0) (pos (m * 2 ^ 32)) width i

-- what the result of a call says of widths: the answer is measured so, and a failure is close
abbrev pub Measures : {T : Type 0} → (T → Type 0) → Result T Fail → Type 0
Measures P (Ok y) = P y
Measures P (Err f) = IsClose f

-- at the scale 2^-56: the answer is as wide as said, and a failure is close
abbrev pub Measured : {E : Type 0} → ℕ → (E → Interval) → (Interval → Type 0) → Result E Fail → Type 0
Measured bits shown answer result = bits ≡ 56 → Measures (λ y. answer (shown y)) result

-- the same by the width of an argument, of each width up to the greatest
abbrev pub Measured1 : {E : Type 0} → ℕ → (E → Interval) → (greatest : ℕ) → (argument answer : ℕ → Interval → Type 0)
    → E → Result E Fail → Type 0
Measured1 bits shown greatest argument answer a result = (v : ℕ) → bits ≡ 56 → v ≤ greatest → argument v (shown a)
    → Measures (λ y. answer v (shown y)) result

-- the same by the width that goes with two arguments
abbrev pub Measured2 : {E : Type 0} → ℕ → (E → Interval) → (greatest : ℕ)
    → (first second answer : ℕ → Interval → Type 0) → (a b : E) → Result E Fail → Type 0
Measured2 bits shown greatest first second answer a b result =
    (v : ℕ) → bits ≡ 56 → v ≤ greatest → first v (shown a) → second v (shown b)
    → Measures (λ y. answer v (shown y)) result

-- at that scale: a failure is close, where an argument is as wide as said, of each width up to the greatest
abbrev pub Closes1 : {E T : Type 0} → ℕ → (E → Interval) → (greatest : ℕ) → (argument : ℕ → Interval → Type 0) → E
    → Result T Fail → Type 0
Closes1 bits shown greatest argument a result = (v : ℕ) → bits ≡ 56 → v ≤ greatest → argument v (shown a)
    → IfErr result IsClose

-- an answer is as wide as said, where an argument is, of each width up to the greatest; nothing of a failure
abbrev pub Answers1 : {E : Type 0} → ℕ → (E → Interval) → (greatest : ℕ) → (argument answer : ℕ → Interval → Type 0) → E
    → Result E Fail → Type 0
Answers1 bits shown greatest argument answer a result = (v : ℕ) → bits ≡ 56 → v ≤ greatest → argument v (shown a)
    → IfOk result (λ y. answer v (shown y))

-- the same by the width that goes with two arguments
abbrev pub Answers2 : {E : Type 0} → ℕ → (E → Interval) → (greatest : ℕ) → (first second answer : ℕ → Interval → Type 0)
    → (a b : E) → Result E Fail → Type 0
Answers2 bits shown greatest first second answer a b result =
    (v : ℕ) → bits ≡ 56 → v ≤ greatest → first v (shown a) → second v (shown b) → IfOk result (λ y. answer v (shown y))

-- Which failures are at the year, of a call that is asked of a whole day: an undecided rounding has another site, and
-- the test of the year of a whole day is decided at each scale of the program (time_scales). Both are said of a result,
-- as clauses have them.
use Rattle.std.specs.Prelude.{ℕ, ◌≤◌, ℤ, Result, Ok, Err, IfErr}
use Rattle.book_model.specs.Interval.{Interval}
use Rattle.book_model.specs.declared.fail.Fail.{Fail}
use Rattle.book_model.specs.declared.fail.Fail.TheVariants.{Undecided as undecided_at, Void}
use Rattle.book_model.specs.declared.site.Site.TheVariants.{Round}
use Rattle.book_model.specs.numbers.Bounds.{Reach, limits_of}
use Rattle.book_model.specs.numbers.Expressions.{integer}
use Rattle.book_model.specs.sky.Facts.{IsValueDay}
use Rattle.book_model.specs.numbers.Relations.{Narrow}
use Rattle.encl_core.specs.Steps.{IsUndecidedFloor}
use Rattle.time_scales.specs.Steps.{IsNoEarlyYear, IsYearUndecidedFor}
use Rattle.time_scales.proofs.WholeDays.{no_early_year}
use Rattle.moon_core.proofs.SunUndecidedTests.{open_is_early}

-- an undecided rounding isn't of the year
pub round_elsewhere : {T : Type 0} (i j : Interval) (r : Result T Fail) → IfErr r (IsUndecidedFloor i Round)
    → IfErr r (IsYearUndecidedFor j)
round_elsewhere i j (Ok v) h = h
round_elsewhere i j (Err (undecided_at u)) h = λ e. let s = h.1 in absurd (cc)
round_elsewhere i j (Err (Void s)) h = absurd h

pub ruleset opening = (round_elsewhere)

-- a year that is undecided of a whole day is none
pub whole_day_year : {E T : Type 0} (shown : E → Interval) (bits : ℕ) (d : ℤ) (e : E) (r : Result T Fail) → 36 ≤ bits
    → bits ≤ 56 → IsValueDay d
    → ((k : Reach) → Narrow shown (limits_of bits) k (integer d) e)
    → IfErr r (IsYearUndecidedFor (shown e)) → IfErr r IsNoEarlyYear
whole_day_year shown bits d e (Ok v) p q h n o = tt
whole_day_year shown bits d e (Err f) p q h n o = no_early_year shown bits d e f p q h n (open_is_early (shown e) f o)

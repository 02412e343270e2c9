-- Which failures of the moon's formulas are at the year: a wrap that is undecided isn't, and one that comes after three
-- tests isn't among the first.
use Rattle.std.specs.Prelude.{ℕ, ◌≤◌, Result, Ok, Err, IfErr}
use Rattle.std.proofs.Common.{arith}
use Rattle.book_model.specs.Interval.{Interval}
use Rattle.book_model.specs.declared.fail.Fail.{Fail}
use Rattle.book_model.specs.declared.fail.Fail.TheVariants.{Undecided as undecided_at, Void}
use Rattle.book_model.specs.declared.site.Site.TheVariants.{MoonWrap, PhaseWrap}
use Rattle.book_model.specs.numbers.Expressions.{World}
use Rattle.book_model.specs.programs.Leading.{Leads}
use Rattle.book_model.specs.programs.Programs.{Program}
use Rattle.book_model.proofs.Early.{not_of_three}
use Rattle.encl_core.specs.Steps.{IsUndecidedWrap}
use Rattle.time_scales.specs.Steps.{IsYearUndecidedFor, IsNoEarlyYear}
use Rattle.sun_core.proofs.UndecidedTests.{step_wrap_elsewhere}

pub moon_wrap_elsewhere : {T : Type 0} (m : ℕ) (i j : Interval) (r : Result T Fail)
    → IfErr r (IsUndecidedWrap m i MoonWrap) → IfErr r (IsYearUndecidedFor j)
moon_wrap_elsewhere m i j (Ok v) h = h
moon_wrap_elsewhere m i j (Err (undecided_at u)) h = λ e. let s = h.1 in absurd (cc)
moon_wrap_elsewhere m i j (Err (Void s)) h = absurd h

pub phase_wrap_elsewhere : {T : Type 0} (m : ℕ) (i j : Interval) (r : Result T Fail)
    → IfErr r (IsUndecidedWrap m i PhaseWrap) → IfErr r (IsYearUndecidedFor j)
phase_wrap_elsewhere m i j (Ok v) h = h
phase_wrap_elsewhere m i j (Err (undecided_at u)) h = λ e. let s = h.1 in absurd (cc)
phase_wrap_elsewhere m i j (Err (Void s)) h = absurd h

pub ruleset opening = (moon_wrap_elsewhere, phase_wrap_elsewhere, step_wrap_elsewhere)

pub late_is_not_early : {A T : Type 0} {R : A → T → Type 0} {p : Program A} {w : World} {b a : ℕ} (r : Result T Fail)
    → 3 ≤ b → Leads w R p b a r
    → IfErr r IsNoEarlyYear
late_is_not_early (Ok v) h l = tt
late_is_not_early (Err (Void s)) h l = tt
late_is_not_early (Err (undecided_at u)) h l = λ s t. let k = not_of_three h l in absurd (omega (arith, k, t))

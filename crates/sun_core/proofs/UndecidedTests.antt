-- A wrap of the sun's longitude that is undecided, by the equinox or by the stars, is no test of the year; nor is one
-- of an angle, and a failure after three tests isn't among the first.
use Rattle.std.specs.Prelude.{ℕ, ◌≤◌, Result, Ok, Err, IfErr}
use Rattle.std.proofs.Common.{arith}
use Rattle.book_model.specs.Interval.{Interval}
use Rattle.book_model.specs.declared.fail.Fail.{Fail}
use Rattle.book_model.specs.declared.fail.Fail.TheVariants.{Undecided as undecided_at, Void}
use Rattle.book_model.specs.declared.site.Site.TheVariants.{Sidereal, StepWrap, SunWrap}
use Rattle.book_model.specs.numbers.Expressions.{World}
use Rattle.book_model.specs.programs.Leading.{Leads}
use Rattle.book_model.specs.programs.Programs.{Program}
use Rattle.book_model.proofs.Early.{not_of_three}
use Rattle.encl_core.specs.Steps.{IsUndecidedWrap}
use Rattle.time_scales.specs.Steps.{IsYearUndecidedFor, IsEarlyYearFor}

pub wrap_elsewhere : {T : Type 0} (m : ℕ) (i j : Interval) (r : Result T Fail) → IfErr r (IsUndecidedWrap m i SunWrap)
    → IfErr r (IsYearUndecidedFor j)
wrap_elsewhere m i j (Ok v) h = h
wrap_elsewhere m i j (Err (undecided_at u)) h = λ e. let s = h.1 in absurd (cc)
wrap_elsewhere m i j (Err (Void s)) h = absurd h

pub stars_elsewhere : {T : Type 0} (m : ℕ) (i j : Interval) (r : Result T Fail) → IfErr r (IsUndecidedWrap m i Sidereal)
    → IfErr r (IsYearUndecidedFor j)
stars_elsewhere m i j (Ok v) h = h
stars_elsewhere m i j (Err (undecided_at u)) h = λ e. let s = h.1 in absurd (cc)
stars_elsewhere m i j (Err (Void s)) h = absurd h

pub step_wrap_elsewhere : {T : Type 0} (m : ℕ) (i j : Interval) (r : Result T Fail)
    → IfErr r (IsUndecidedWrap m i StepWrap) → IfErr r (IsEarlyYearFor j)
step_wrap_elsewhere m i j (Ok v) h = h
step_wrap_elsewhere m i j (Err (undecided_at u)) h = λ e t. let s = h.1 in absurd (cc)
step_wrap_elsewhere m i j (Err (Void s)) h = absurd h

pub ruleset opening = (wrap_elsewhere, stars_elsewhere, step_wrap_elsewhere)

-- a failure at an undecided year is one of the first or not
pub open_is_early : (i : Interval) (f : Fail) → IsYearUndecidedFor i f → IsEarlyYearFor i f
open_is_early i (undecided_at u) h = λ s t. h s
open_is_early i (Void s) h = tt

-- a failure after three tests
pub late_failure : {A T : Type 0} {R : A → T → Type 0} {p : Program A} {w : World} {b a : ℕ} (i : Interval)
    (r : Result T Fail) → 3 ≤ b → Leads w R p b a r
    → IfErr r (IsEarlyYearFor i)
late_failure i (Ok v) h l = tt
late_failure i (Err (Void s)) h l = tt
late_failure i (Err (undecided_at u)) h l = λ s t. let k = not_of_three h l in absurd (omega (arith, k, t))

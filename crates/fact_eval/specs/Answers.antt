-- The answer that the result of a formula is, and which of them are close.
use Rattle.std.specs.Prelude.{◌^◌, ℤ, pos, ◌-ℤ◌, ◌≤ℤ◌, Result, Ok, Err}
use Rattle.book_model.specs.declared.fail.Fail.{Fail}
use Rattle.book_model.specs.declared.fail.Fail.TheVariants.{Undecided as undecided_at, Void as void_at}
use Rattle.book_model.specs.declared.fail.Undecided.{Undecided as UndecidedTest}
use Rattle.book_model.specs.sky.Facts.{AreClose}
use Rattle.oracle_core.specs.declared.evaluator.Answer.{Answer}
use Rattle.oracle_core.specs.declared.evaluator.Answer.TheVariants.{Value, Undecided, Void}

-- the answer that the result of a formula is
abbrev pub answer_of : Result ℤ Fail → Answer
answer_of (Ok v) = Value v
answer_of (Err (undecided_at u)) = Undecided u
answer_of (Err (void_at s)) = Void s

-- an answer is no undecided test, or one whose bounds are close
abbrev pub IsCloseAnswer : Answer → Type 0
IsCloseAnswer (Value v) = Unit {0}
IsCloseAnswer (Undecided u) = AreClose u
IsCloseAnswer (Void s) = Unit {0}

-- the bounds of an undecided test are at most a 2^24th apart, as every site allows
abbrev pub AreCloseAnywhere : UndecidedTest → Type 0
AreCloseAnywhere u = (u.hi -ℤ u.lo) ≤ℤ pos (2 ^ 32)

-- an answer is no undecided test, or one whose bounds are close at every site
abbrev pub IsCloseAnywhere : Answer → Type 0
IsCloseAnywhere (Value v) = Unit {0}
IsCloseAnywhere (Undecided u) = AreCloseAnywhere u
IsCloseAnywhere (Void s) = Unit {0}

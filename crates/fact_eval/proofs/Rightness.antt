-- The answer that an evaluation gives is right for its fact. An evaluation that began with no test counted leads as the
-- fact's program does (Evaluations), so each of its three results, a value, a void and an undecided test, is what the
-- clause of an answer asks of it; that fewer than 100,000 tests are made keeps the number of a test in 32 bits
-- (FewTests of day_facts).
use Rattle.std.specs.Prelude.{◌≡◌, ℕ, ◌≤◌, ℤ, true, false, Result, Ok, Err, IfOk, IfErr, refl}
use Rattle.book_model.specs.declared.fact.Fact.{Fact}
use Rattle.book_model.specs.declared.fact.TheConstants.{FIRST_DAY, LAST_DAY}
use Rattle.book_model.specs.declared.site.Site.TheVariants.{Year}
use Rattle.book_model.specs.declared.fail.Fail.{Fail}
use Rattle.book_model.specs.declared.fail.Fail.TheVariants.{Undecided as undecided_at, Void}
use Rattle.book_model.specs.sky.Correction.{is_between}
use Rattle.book_model.specs.numbers.Expressions.{World}
use Rattle.book_model.specs.sky.Facts.{IsFactValue, program_of, formula_of}
use Rattle.book_model.specs.programs.Leading.{Exact, Leads}
use Rattle.book_model.specs.programs.Programs.{void}
use Rattle.day_facts.proofs.FewTests.{program_few}
use Rattle.fact_eval.proofs.Evaluations.{true_of_leads, void_of_leads, near_of_leads}
use Rattle.oracle_core.specs.Answers.{IsRightAnswer}
use Rattle.fact_eval.specs.Answers.{answer_of, IsCloseAnswer}
use Rattle.book_model.specs.programs.Widths.{IsClose, close_test}
use Rattle.day_facts.specs.WholeDays.{IsNoWholeDay}

-- the formula of a fact by whether it may have a value
pub program_inside : (f : Fact) → is_between FIRST_DAY LAST_DAY f.day ≡ true
    → program_of f ≡ formula_of f.kind f.place f.day
unfolding program_of
program_inside f h = rw h refl

pub program_outside : (f : Fact) → is_between FIRST_DAY LAST_DAY f.day ≡ false → program_of f ≡ void Year
unfolding program_of
program_outside f h = rw h refl

-- an answer is close where the failure is
pub close_answer : (t : Result ℤ Fail) → IfErr t IsClose → IsCloseAnswer (answer_of t)
close_answer (Ok v) h = tt
close_answer (Err (Void s)) h = tt
close_answer (Err (undecided_at u)) (close_test h) = h

-- what an evaluation that began with no test counted gives is right, wherever the bounds of an undecided test are close
pub right_result : (f : Fact) (t : Result ℤ Fail) (a : ℕ)
    → ((w : World) → 40 ≤ w.depth → Leads w Exact (program_of f) 0 a t) → IfOk t IsFactValue
    → IfErr t (IsNoWholeDay f.kind)
    → IsCloseAnswer (answer_of t) → IsRightAnswer f (answer_of t)
right_result f (Ok v) a h k l c = (true_of_leads f v (program_of f) a refl h, k)
right_result f (Err (Void s)) a h k l c = void_of_leads f s (program_of f) a refl h
right_result f (Err (undecided_at u)) a h k l c = record {
  at_each_depth = near_of_leads f u (program_of f) a refl (program_few f) c h;
  no_whole_day = l;
  close = c;
}

use Rattle.std.proofs.Common.{arith, ◌+◌, ◌*◌, ◌^◌}
use Rattle.std.proofs.lemmas.Result.{err_from_is_err_and}
use Rattle.book_model.specs.sky.Phases.{phase_of_choice, test_which_phase_of}
use Rattle.book_model.specs.programs.Programs.{answer}
use Rattle.book_model.proofs.Leads.{leads_bind, leads_answer, leads_fail}
use Rattle.moon_core.specs.PickedLongitudes.{are_apart_of}
use Rattle.moon_core.proofs.phases.test_which_phase.Goals as goal

pub returns-clause-leads : goal.returns-clause-leads
unfolding test_which_phase_of are_apart_of
returns-clause-leads g c = λ w p q h k.
    leads_bind {f = λ apart. answer (phase_of_choice apart p q)} (c.in_ok-apart.ensures.leads w p q h k)
    (λ b e. rw e (leads_answer (c.phase_of_choice.ensures.holds w p q h k)))

pub returns-clause-measured : goal.returns-clause-measured
returns-clause-measured g c = λ v e b h k.
    c.phase_of_choice.ensures.measured (22 * v + 17 * 2 ^ 32) (13 * v + 2 ^ 35) (24 * v + 2 ^ 37) (omega (arith, b))
    (omega (arith, b)) h k

pub returns-in_err-apart-clause-measured : goal.returns-in_err-apart-clause-measured
returns-in_err-apart-clause-measured g c = λ v e b h k.
    let fails = err_from_is_err_and c.from_residual.result c.from_residual.ensures.1 in
    rw (fails.1, fails.2) (c.in_err-apart.ensures.close v e b h k)

pub returns-in_err-apart-clause-leads : goal.returns-in_err-apart-clause-leads
unfolding test_which_phase_of are_apart_of
returns-in_err-apart-clause-leads g c = λ w p q h k.
    let fails = err_from_is_err_and c.from_residual.result c.from_residual.ensures.1 in
    rw (fails.1, fails.2) (leads_fail _ (c.in_err-apart.ensures.leads w p q h k))

pub returns-clause-wide : goal.returns-clause-wide
returns-clause-wide g c = λ v e b h k. c.phase_of_choice.ensures.measured (22 * v + 17 * 2 ^ 32) (13 * v + 2 ^ 35)
    (24 * v + 2 ^ 37) (omega arith) (omega arith)
    h k

use Rattle.std.proofs.Common.{refl}
use Rattle.std.proofs.lemmas.Result.{IfOk-weaker}
use Rattle.book_model.specs.declared.version.TheConstants.{WRITTEN}
use Rattle.jobs_core.proofs.AnswerLemmas.{right_result, right_stop}
use Rattle.jobs_core.specs.Outcomes.{halt_outcome}
use Rattle.jobs_core.proofs.outcome.outcome_of_request.Goals as goal

pub returns-in-Ok : goal.returns-in-Ok
returns-in-Ok g c =
    let right = right_result WRITTEN c.args.request.now c.in-Ok.resolved _ _ _ c.finish.ensures.stand
    (rw c.new-asking.ensures.empty refl) refl c.in-Ok.ensures.comes in
    record {
      right = IfOk-weaker c.found_by.result _ _ (λ outcome same. rw same (rw c.finish.ensures.pairs right))
          c.found_by.ensures.found;
    }

pub returns-in_ok-new-in-Err : goal.returns-in_ok-new-in-Err
returns-in_ok-new-in-Err g c =
    let right = right_stop WRITTEN c.args.request.now c.in-Err.stop _ _ (halt_outcome c.in_ok-halt_at-in-Err.field-0)
    c.in-Err.ensures.comes c.in_ok-halt_at-in-Err.ensures.stopped in
    record { right = rw c.in_ok-new-in-Err.ensures.ok right }

use Rattle.std.proofs.lemmas.Result.{err_from_is_err_and}
use Rattle.jobs_core.specs.Outcomes.{line_outcome}
use Rattle.conversion.specs.Answering.{brief_text}
use Rattle.conversion.proofs.AnsweredLemmas.{answered, answer_cut}
use Rattle.conversion.proofs.PrintedLemmas.{performs_cut}
use Rattle.conversion.proofs.answering.answer_briefly.Goals as goal

pub returns-in_err-write_brief : goal.returns-in_err-write_brief
returns-in_err-write_brief g c =
    let fails = err_from_is_err_and c.from_residual-in_err-write_brief.result
    c.from_residual-in_err-write_brief.ensures.1 in
    let cut = answer_cut brief_text _ _ _ (line_outcome c.in_ok-outcome.outcome) c.in_ok-outcome.ensures.right
    c.in_err-write_brief.ensures.err in
    record {
      performs = performs_cut fails.0 fails.1 cut (λ is_fault. c.in_err-write_brief.ensures.cause.failed)
          c.in_err-write_brief.ensures.cause.later;
    }

pub returns : goal.returns
returns g c = record {
  performs = record {
    ok = answered brief_text _ _ _ (line_outcome c.in_ok-outcome.outcome) _ c.in_ok-outcome.ensures.right
        c.in_ok-write_brief.ensures.ok
        c.is_found.ensures;
    fault = λ e. absurd (cc);
    memory = λ e. absurd (cc);
    cause = λ e. absurd (cc);
    later = c.in_ok-write_brief.ensures.cause.later;
  };
}

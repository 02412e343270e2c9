use Rattle.std.proofs.lemmas.Result.{err_from_is_err_and}
use Rattle.jobs_core.specs.Outcomes.{line_outcome}
use Rattle.conversion.specs.Answering.{answer_text}
use Rattle.conversion.proofs.AnsweredLemmas.{answered, answer_cut}
use Rattle.conversion.proofs.EchoLemmas.{right_stands}
use Rattle.conversion.proofs.PrintedLemmas.{performs_cut}
use Rattle.conversion.proofs.answering.answer_line.Goals as goal

pub write_alone-requires : goal.write_alone-requires
write_alone-requires g c = record {
  empty = c.in_ok-page.ensures.pending;
  new = c.in_ok-page.ensures.seen;
  stands = right_stands _ _ c.in_ok-outcome.ensures.right;
}

pub returns-in_err-write_alone : goal.returns-in_err-write_alone
returns-in_err-write_alone g c =
    let fails = err_from_is_err_and c.from_residual-in_err-write_alone.result
    c.from_residual-in_err-write_alone.ensures.1 in
    let cut = answer_cut (answer_text c.args.line.now) _ _ _ (line_outcome c.in_ok-outcome.outcome)
    c.in_ok-outcome.ensures.right
    c.in_err-write_alone.ensures.err in
    record {
      performs = performs_cut fails.0 fails.1 cut (λ is_fault. c.in_err-write_alone.ensures.fault (cc fails.2))
          c.in_err-write_alone.ensures.later;
    }

pub returns : goal.returns
returns g c = record {
  performs = record {
    ok = answered (answer_text c.args.line.now) _ _ _ (line_outcome c.in_ok-outcome.outcome) _
        c.in_ok-outcome.ensures.right c.in_ok-write_alone.ensures.ok
        c.is_found.ensures;
    fault = λ e. absurd (cc);
    memory = λ e. absurd (cc);
    cause = λ e. absurd (cc);
    later = c.in_ok-write_alone.ensures.later;
  };
}

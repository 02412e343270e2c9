use Rattle.std.proofs.lemmas.Result.{err_from_is_err_and}
use Rattle.cert_check.proofs.FilesRead.{read_checkable}
use Rattle.cert_parser.specs.Reading.{grammar_of}
use Rattle.run_core.specs.Checking.{cut_verdicts, cut_bad}
use Rattle.run_core.proofs.CheckLemmas.{checks_come, refused, stopped_within}
use Rattle.run_core.proofs.check.check.Goals as goal

pub check_file-requires-clause-checkable : goal.check_file-requires-clause-checkable
check_file-requires-clause-checkable g c κs within = read_checkable c.args.input.now c.in-Ok.file c.in-Ok.ensures

pub returns-in_err-is_right-in-Ok : goal.returns-in_err-is_right-in-Ok
returns-in_err-is_right-in-Ok g c =
    let fails = err_from_is_err_and c.from_residual.result c.from_residual.ensures.1 in
    record {
      performs = rw (fails.1, fails.2) (stopped_within _ (cut_verdicts c.in-Ok.file c.in-Ok.ensures)
          c.in_err-is_right-in-Ok.ensures.performs);
    }

pub returns-in_ok-is_right-in-Ok : goal.returns-in_ok-is_right-in-Ok
returns-in_ok-is_right-in-Ok g c = record {
  performs = record {
    ok = rw c.of.ensures.checked (checks_come _ _ c.args.input.now c.in-Ok.file _ c.in-Ok.ensures
        c.in_ok-is_right-in-Ok.ensures.performs.ok);
    fault = λ e. absurd (cc);
    memory = λ e. absurd (cc);
    cause = λ e. absurd (cc);
    later = c.in_ok-is_right-in-Ok.ensures.performs.later;
  };
}

pub returns-in-Err : goal.returns-in-Err
returns-in-Err g c = record {
  performs = refused c.in-Err.fail (grammar_of c.args.input.now) c.in-Err.ensures (λ refuses. refuses) cut_bad
      c.write_fail.ensures.performs;
}

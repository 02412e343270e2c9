use Rattle.std.proofs.Common.{rules}
use Rattle.run_core.proofs.CheckLemmas.{checks_file}
use Rattle.run_core.proofs.check.check_file.Goals as goal

pub returns : goal.returns
returns g c = record {
  performs = record {
    ok = checks_file _ _ c.args.file.now c.in_ok-answers.answers _ c.requires.checkable c.in_ok-answers.ensures.right
        c.in_ok-is_right.ensures.ok
        c.in_ok-is_right.ensures.yes;
    fault = λ e. absurd (cc);
    memory = λ e. absurd (cc);
    cause = λ e. absurd (cc);
    later = c.in_ok-is_right.ensures.later;
  };
}

pub returns-in_err-shelf : goal.returns-in_err-shelf
returns-in_err-shelf g c = search rules

pub returns-in_err-answers : goal.returns-in_err-answers
returns-in_err-answers g c = search rules

pub write_by_rounds-requires-clause-checkable : goal.write_by_rounds-requires-clause-checkable
write_by_rounds-requires-clause-checkable g c = search rules

pub write_by_rounds-requires-clause-right : goal.write_by_rounds-requires-clause-right
write_by_rounds-requires-clause-right g c = search rules

pub returns-in_err-is_right : goal.returns-in_err-is_right
returns-in_err-is_right g c = search rules

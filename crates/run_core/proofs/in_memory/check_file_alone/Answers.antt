use Rattle.run_core.proofs.CheckLemmas.{checks_file}
use Rattle.run_core.proofs.in_memory.check_file_alone.Goals as goal

pub returns : goal.returns
returns g c = record {
  performs = record {
    ok = checks_file _ _ c.args.file.now c.in_ok-answers.answers _ c.requires.checkable c.in_ok-answers.ensures.right
        c.in_ok-is_right.ensures.ok
        c.in_ok-is_right.ensures.yes;
    fault = λ e. absurd (cc);
    memory = λ e. absurd (cc);
    cause = λ e. absurd (cc);
    later = c.in_ok-is_right.ensures.later;
  };
}

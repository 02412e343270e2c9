use Rattle.std.proofs.lemmas.Result.{err_from_is_err_and}
use Rattle.run_core.specs.Upgrading.{upgradable, cut_text, cut_refusal}
use Rattle.run_core.proofs.CheckLemmas.{refused, stopped_within}
use Rattle.run_core.proofs.UpgradeLemmas.{older_ruled, upgrade_comes}
use Rattle.run_core.proofs.upgrade.upgrade.Goals as goal

pub renew-requires-clause-rules : goal.renew-requires-clause-rules
renew-requires-clause-rules g c κs within = rw c.entries.ensures.entries
    (older_ruled c.args.input.now c.in-Ok.file c.in-Ok.ensures)

pub returns-in_err-is_whole-in-Ok : goal.returns-in_err-is_whole-in-Ok
returns-in_err-is_whole-in-Ok g c =
    let fails = err_from_is_err_and c.from_residual.result c.from_residual.ensures.1 in
    let stopped = rw c.entries.ensures.entries at c.in_err-is_whole-in-Ok.ensures.performs in
    record { performs = rw (fails.1, fails.2) (stopped_within _ (cut_text c.in-Ok.file c.in-Ok.ensures) stopped) }

pub returns-in_ok-is_whole-in-Ok : goal.returns-in_ok-is_whole-in-Ok
returns-in_ok-is_whole-in-Ok g c =
    let done = rw c.entries.ensures.entries at c.in_ok-is_whole-in-Ok.ensures.performs in
    record {
      performs = record {
        ok = rw c.of.ensures.checked (upgrade_comes _ _ c.args.input.now c.in-Ok.file _ c.in-Ok.ensures done.ok);
        fault = λ e. absurd (cc);
        memory = λ e. absurd (cc);
        cause = λ e. absurd (cc);
        later = done.later;
      };
    }

pub returns-in-Err : goal.returns-in-Err
returns-in-Err g c = record {
  performs = refused c.in-Err.fail (upgradable c.args.input.now) c.in-Err.ensures (λ refuses. refuses) cut_refusal
      c.write_fail.ensures.performs;
}

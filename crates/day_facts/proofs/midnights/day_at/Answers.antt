use Rattle.std.proofs.Common.{arith, ◌+◌, ◌*◌, ◌^◌}
use Rattle.std.proofs.lemmas.Result.{err_from_is_err_and}
use Rattle.day_facts.proofs.Measured.{later_about}
use Rattle.day_facts.proofs.midnights.day_at.Goals as goal

pub returns-clause-close : goal.returns-clause-close
returns-clause-close g c = λ v e b h.
    let m = c.in_ok-moment.ensures.measured v e (omega (arith, b)) h in
    c.floor_step.ensures.close (v + 3 * 2 ^ 8) (omega (arith, b)) (later_about _ _ m)

pub returns-in_err-moment-clause-close : goal.returns-in_err-moment-clause-close
returns-in_err-moment-clause-close g c = λ v e b h.
    let fails = err_from_is_err_and c.from_residual.result c.from_residual.ensures.1 in
    rw (fails.1, fails.2) (c.in_err-moment.ensures.measured v e (omega (arith, b)) h)

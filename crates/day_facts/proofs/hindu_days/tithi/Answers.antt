use Rattle.std.proofs.Common.{arith, ◌*◌, ◌^◌}
use Rattle.std.proofs.lemmas.Result.{err_from_is_err_and}
use Rattle.day_facts.proofs.hindu_days.tithi.Goals as goal

pub returns-in_err-rising-clause-close : goal.returns-in_err-rising-clause-close
returns-in_err-rising-clause-close g c = λ e.
    let m = c.in_err-rising.ensures.measured in
    let fails = err_from_is_err_and c.from_residual.result c.from_residual.ensures.1 in
    rw (fails.1, fails.2) (m e)

pub returns-in_err-passed-clause-close : goal.returns-in_err-passed-clause-close
returns-in_err-passed-clause-close g c = λ e.
    let m = c.in_ok-rising.ensures.measured in
    let fails = err_from_is_err_and c.from_residual-in_err-passed.result c.from_residual-in_err-passed.ensures.1 in
    rw (fails.1, fails.2) (c.in_err-passed.ensures.close (5 * 2 ^ 8) e (omega arith) (m e))

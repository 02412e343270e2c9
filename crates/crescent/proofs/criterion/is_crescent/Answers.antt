use Rattle.std.proofs.Common.{arith, ◌^◌}
use Rattle.std.proofs.lemmas.Result.{err_from_is_err_and}
use Rattle.crescent.proofs.Thresholds.{angle_about}
use Rattle.crescent.proofs.criterion.is_crescent.Goals as goal

pub returns-in_err-is_past_new-clause-close : goal.returns-in_err-is_past_new-clause-close
returns-in_err-is_past_new-clause-close g c = λ e f h k.
    let fails = err_from_is_err_and c.from_residual.result c.from_residual.ensures.1 in
    rw (fails.1, fails.2) (c.in_err-is_past_new.ensures.close (2 ^ 38) e (omega arith) (angle_about _ f))

pub returns-in_err-is_before_quarter-clause-close : goal.returns-in_err-is_before_quarter-clause-close
returns-in_err-is_before_quarter-clause-close g c = λ e f h k.
    let fails = err_from_is_err_and c.from_residual-in_err-is_before_quarter.result
    c.from_residual-in_err-is_before_quarter.ensures.1 in
    rw (fails.1, fails.2) (c.in_err-is_before_quarter.ensures.close (2 ^ 38) e (omega arith) (angle_about _ f))

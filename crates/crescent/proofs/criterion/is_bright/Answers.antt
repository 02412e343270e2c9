use Rattle.std.proofs.Common.{arith, ◌^◌}
use Rattle.std.proofs.lemmas.Result.{err_from_is_err_and}
use Rattle.crescent.proofs.Thresholds.{arc_about, altitude_about}
use Rattle.crescent.proofs.criterion.is_bright.Goals as goal

pub returns-in_err-is_lit-clause-close : goal.returns-in_err-is_lit-clause-close
returns-in_err-is_lit-clause-close g c = λ e h k.
    let fails = err_from_is_err_and c.from_residual.result c.from_residual.ensures.1 in
    rw (fails.1, fails.2) (c.in_err-is_lit.ensures.close (2 ^ 33) e (omega arith) (arc_about _ h))

pub returns-in_err-is_within_quarter-clause-close : goal.returns-in_err-is_within_quarter-clause-close
returns-in_err-is_within_quarter-clause-close g c = λ e h k.
    let fails = err_from_is_err_and c.from_residual-in_err-is_within_quarter.result
    c.from_residual-in_err-is_within_quarter.ensures.1 in
    rw (fails.1, fails.2) (c.in_err-is_within_quarter.ensures.close (2 ^ 33) e (omega arith) (arc_about _ h))

pub returns-in_err-is_high-clause-close : goal.returns-in_err-is_high-clause-close
returns-in_err-is_high-clause-close g c = λ e h k.
    let fails = err_from_is_err_and c.from_residual-in_err-is_high.result c.from_residual-in_err-is_high.ensures.1 in
    rw (fails.1, fails.2) (c.in_err-is_high.ensures.close (2 ^ 37) e (omega arith) (altitude_about _ k))

use Rattle.std.proofs.Common.{SFits, w64}
use Rattle.std.proofs.lemmas.Int.{to_z-of_z}
use Rattle.std.proofs.lemmas.Result.{err_from_is_err_and}
use Rattle.crescent.proofs.first_visibility.visibility_after.Goals as goal

pub returns-in_err-from-clause-close : goal.returns-in_err-from-clause-close
returns-in_err-from-clause-close g c = λ e p low.
    let f : SFits w64 c.args.day = c.ranges.day in
    let m = simp to_z-of_z at c.in_err-from.ensures.close in
    let fails = err_from_is_err_and c.from_residual.result c.from_residual.ensures.1 in
    rw (fails.1, fails.2) (m e p low)

pub returns-clause-close : goal.returns-clause-close
returns-clause-close g c = λ e p low. c.first_visibility.ensures.close e p

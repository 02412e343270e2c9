use Rattle.std.proofs.Common.{SFits, w64}
use Rattle.std.proofs.lemmas.Int.{to_z-of_z}
use Rattle.std.proofs.lemmas.Result.{err_from_is_err_and}
use Rattle.day_facts.proofs.hindu_days.has_sign.Goals as goal

pub returns-in_err-there-clause-close : goal.returns-in_err-there-clause-close
returns-in_err-there-clause-close g c = λ l u e.
    let f : SFits w64 c.args.day = c.ranges.day in
    let m = simp to_z-of_z at c.in_err-there.ensures.close in
    let fails = err_from_is_err_and c.from_residual.result c.from_residual.ensures.1 in
    rw (fails.1, fails.2) (m l u e)

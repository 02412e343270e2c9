use Rattle.std.proofs.Common.{arith, ◌*◌, ◌^◌, SFits, w64}
use Rattle.std.proofs.lemmas.Int.{to_z-of_z}
use Rattle.std.proofs.lemmas.Result.{err_from_is_err_and}
use Rattle.day_facts.proofs.hindu_days.sign_on.Goals as goal

pub returns-clause-close : goal.returns-clause-close
returns-clause-close g c = λ l u e.
    let f : SFits w64 c.args.day = c.ranges.day in
    let m = simp to_z-of_z at c.in_ok-t.ensures.recent in
    c.sign.ensures.close (9 * 2 ^ 29) e (omega arith) (m l u e)

pub returns-in_err-t-clause-close : goal.returns-in_err-t-clause-close
returns-in_err-t-clause-close g c = λ l u e.
    let f : SFits w64 c.args.day = c.ranges.day in
    let m = simp to_z-of_z at c.in_err-t.ensures.recent in
    let fails = err_from_is_err_and c.from_residual.result c.from_residual.ensures.1 in
    rw (fails.1, fails.2) (m l u e)

use Rattle.std.proofs.Common.{SFits, w64, arith}
use Rattle.std.proofs.lemmas.Int.{to_z-of_z, ints}
use Rattle.std.proofs.lemmas.Result.{err_from_is_err_and}
use Rattle.crescent.proofs.first_visibility.sought_start.Goals as goal

pub returns-in_err-is_seen-clause-close : goal.returns-in_err-is_seen-clause-close
returns-in_err-is_seen-clause-close g c = λ e p.
    let f : SFits w64 c.day_before.result =
    omega (arith, ints, c.day_before.ensures.near.0, c.day_before.ensures.near.1) in
    let m = simp to_z-of_z at c.in_err-is_seen.ensures.close in
    let fails = err_from_is_err_and c.from_residual.result c.from_residual.ensures.1 in
    rw (fails.1, fails.2) (m e p c.day_before.ensures.near)

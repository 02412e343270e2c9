use Rattle.std.proofs.Common.{arith, SFits, w64}
use Rattle.std.proofs.lemmas.Int.{ints, to_z-of_z}
use Rattle.std.proofs.lemmas.Result.{err_from_is_err_and}
use Rattle.moon_core.proofs.Measured.{late_moment}
use Rattle.moon_core.proofs.walks.moon_from_by.Goals as goal

pub returns-in_err-about-clause-recent : goal.returns-in_err-about-clause-recent
returns-in_err-about-clause-recent g c = λ v e b h.
    let fails = err_from_is_err_and c.from_residual.result c.from_residual.ensures.1 in
    rw (fails.1, fails.2) (c.in_err-about.ensures.close v e b (late_moment v _ h))

pub returns-in_err-next-clause-recent : goal.returns-in_err-next-clause-recent
returns-in_err-next-clause-recent g c = λ v e b h.
    let l = c.in_ok-about.ensures.from in
    let u = c.in_ok-about.ensures.to in
    let z : SFits w64 c.in_ok-about.about = omega (arith, ints, l, u) in
    let k = simp to_z-of_z at c.in_err-next.ensures.close in
    let fails = err_from_is_err_and c.from_residual-in_err-next.result c.from_residual-in_err-next.ensures.1 in
    rw (fails.1, fails.2) (k (omega (arith, ints, l)) (omega (arith, ints, u)) v e (omega (arith, b))
    (late_moment v _ h))

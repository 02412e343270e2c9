use Rattle.std.proofs.Common.{arith, ◌^◌, SFits, w64}
use Rattle.std.proofs.lemmas.Int.{to_z-of_z}
use Rattle.encl_core.proofs.Measuring.{moment_about}
use Rattle.moon_core.proofs.Measured.{dated_about}
use Rattle.moon_core.proofs.walks.is_moon_before.Goals as goal

pub returns-clause-close : goal.returns-clause-close
returns-clause-close g c = λ l u v e b h.
    let f : SFits w64 c.args.n = c.ranges.n in
    let m = simp to_z-of_z at c.in_ok-moment.ensures.measured in
    c.less_step.ensures.close (2 ^ 30) v (omega (arith, b)) (dated_about _ _ (m l u e)) (moment_about _ _ h)

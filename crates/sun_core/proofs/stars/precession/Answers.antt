use Rattle.std.proofs.Common.{arith, ◌+◌, ◌*◌, ◌/◌, ◌^◌}
use Rattle.std.proofs.lemmas.Int.{ints}
use Rattle.encl_core.proofs.Measuring.{looser}
use Rattle.sun_core.proofs.stars.precession.Goals as goal

pub returns-clause-measured : goal.returns-clause-measured
returns-clause-measured g c = λ v e l h.
    let k = c.in_ok-c.ensures.recent v e (omega (arith, l)) h in
    looser _ _ _ _ (14 * (v / 36525 + 2 ^ 12) + 2 ^ 24) (v / 1000 + 2 ^ 33) _ (omega (arith, ints))
    (omega (arith, ints)) (omega arith)
    (c.precession_at.ensures.measured (v / 36525 + 2 ^ 12) e (omega (arith, l)) k)

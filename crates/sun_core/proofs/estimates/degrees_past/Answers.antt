use Rattle.std.proofs.Common.{arith, ◌+◌, ◌*◌, ◌^◌}
use Rattle.sun_core.proofs.Measured.{past_within}
use Rattle.sun_core.proofs.estimates.degrees_past.Goals as goal

pub returns-clause-measured : goal.returns-clause-measured
returns-clause-measured g c = λ v e b h k.
    let s = c.in_ok-there.ensures.measured v e b k in
    let d = past_within g.E.Enclosure.shown _ v c.in_ok-there.there c.args.longitude c.sub.result e s h
    (λ r p q. c.sub.ensures.encloses.narrow r p q) in
    c.reduced.ensures.measured (2 * v + 2 ^ 32) e (omega (arith, b)) d

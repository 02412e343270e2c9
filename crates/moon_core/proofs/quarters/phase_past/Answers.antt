use Rattle.std.proofs.Common.{arith, ◌+◌, ◌*◌, ◌^◌}
use Rattle.moon_core.proofs.QuarterWidths.{past_within}
use Rattle.moon_core.proofs.quarters.phase_past.Goals as goal

pub returns-clause-early : goal.returns-clause-early
returns-clause-early g c = λ z. c.reduced.ensures.elsewhere _

pub returns-clause-measured : goal.returns-clause-measured
returns-clause-measured g c = λ v e b h k.
    let p = c.in_ok-there.ensures.measured v e b k in
    let d = past_within g.E.Enclosure.shown _ (24 * v + 2 ^ 37) c.in_ok-there.there c.args.phase c.sub.result e p h
    (λ r p q. c.sub.ensures.encloses.narrow r p q) in
    c.reduced.ensures.measured (24 * v + 2 ^ 37) e (omega (arith, b)) d

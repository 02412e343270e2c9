use Rattle.std.proofs.Common.{arith}
use Rattle.moon_core.proofs.QuarterWidths.{low_within, high_within}
use Rattle.moon_core.proofs.quarters.phase_about.Goals as goal

pub returns-clause-measured : goal.returns-clause-measured
returns-clause-measured g c = λ v e b h k l.
    let shown = g.E.Enclosure.shown in
    let low = low_within shown _ v c.args.t c.args.about c.from_int-days.result e k l
    (λ r. c.from_int-days.ensures.encloses.narrow r) c.sub-low.result
    (λ r p q. c.sub-low.ensures.encloses.narrow r p q) in
    let high = high_within shown _ v c.args.t c.args.about c.from_int-days.result e k l
    (λ r. c.from_int-days.ensures.encloses.narrow r) c.add.result
    c.min-high.result (λ r p q. c.add.ensures.encloses.narrow r p q) (λ r p q. c.min-high.ensures.encloses.narrow r p q)
    in
    c.invert_angular.ensures.measured v 0 e (omega (arith, b)) (omega (arith, b)) h low high

use Rattle.std.proofs.Common.{arith}
use Rattle.sun_core.proofs.PassageWidths.{low_within, high_within}
use Rattle.sun_core.proofs.passages.passage_about.Goals as goal

pub returns-clause-measured : goal.returns-clause-measured
returns-clause-measured g c = λ v e b h k l.
    let shown = g.E.Enclosure.shown in
    let low = low_within shown _ v c.args.t c.args.about c.from_int-days.result e k l
    (λ r. c.from_int-days.ensures.encloses.narrow r) c.sub.result c.max.result
    (λ r p q. c.sub.ensures.encloses.narrow r p q) (λ r p q. c.max.ensures.encloses.narrow r p q) in
    let high = high_within shown _ v c.args.t c.args.about c.from_int-days.result e k l
    (λ r. c.from_int-days.ensures.encloses.narrow r) c.add.result
    (λ r p q. c.add.ensures.encloses.narrow r p q) in
    c.invert_angular.ensures.measured v 0 e b (omega (arith, b)) h low high

use Rattle.std.proofs.Common.{SFits, w64}
use Rattle.std.proofs.lemmas.Int.{to_z-of_z}
use Rattle.moon_core.proofs.Measured.{months_within}
use Rattle.moon_core.proofs.phases.months_since.Goals as goal

pub returns-clause-measured : goal.returns-clause-measured
returns-clause-measured g c = λ l u v e b h.
    let f : SFits w64 c.args.n = c.ranges.n in
    let m = simp to_z-of_z at c.in_ok-moment.ensures.measured in
    months_within g.E.Enclosure.shown _ v c.args.t c.in_ok-moment.moment c.sub.result c.mul_frac.result e h (m l u e)
    (λ r p q. c.sub.ensures.encloses.narrow r p q) (λ r p. c.mul_frac.ensures.encloses.narrow r p)

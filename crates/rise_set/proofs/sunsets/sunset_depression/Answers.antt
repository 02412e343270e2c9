use Rattle.rise_set.proofs.Places.{sunset_within}
use Rattle.rise_set.proofs.sunsets.sunset_depression.Goals as goal

pub returns-clause-measured : goal.returns-clause-measured
returns-clause-measured g c = λ e p.
    sunset_within g.E.Enclosure.shown _ c.refraction.result c.from_frac.result c.add.result e
    (c.refraction.ensures.measured e p)
    (λ r. c.from_frac.ensures.encloses.narrow r) (λ r x y. c.add.ensures.encloses.narrow r x y)

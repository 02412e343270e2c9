use Rattle.moon_rise.proofs.Heights.{altitude_within}
use Rattle.moon_rise.proofs.altitudes.height.Goals as goal

pub returns-clause-measured : goal.returns-clause-measured
returns-clause-measured g c = λ e s d p.
    c.lifted.ensures.measured e
    (altitude_within g.E.Enclosure.shown _ c.args.sine c.arcsin_deg.result e
    (λ r x. c.arcsin_deg.ensures.encloses.narrow r x) s) d p

use Rattle.rise_set.proofs.Measured.{latitude_within}
use Rattle.rise_set.proofs.Altitudes.{altitude_within}
use Rattle.rise_set.proofs.altitude.altitude_sine.Goals as goal

pub returns-clause-measured : goal.returns-clause-measured
returns-clause-measured g c = λ e p h i j k.
    let shown = g.E.Enclosure.shown in
    let ground = latitude_within shown _ c.args.ground c.from_frac-here.result e p
    (λ r. c.from_frac-here.ensures.encloses.narrow r) in
    altitude_within shown _ c.from_frac-here.result c.args.sidereal c.args.obliquity c.args.longitude c.args.latitude
    c.sine_over.result e ground h i j k
    (λ r x t o l b q u v w z. c.sine_over.ensures.narrow r x t o l b (c.direction_of.ensures.narrow r x q) u v w z)

use Rattle.sun_core.proofs.Measured.{longitude_within}
use Rattle.sun_core.proofs.longitude.longitude.Goals as goal

pub returns-clause-measured : goal.returns-clause-measured
returns-clause-measured g c = λ v e b h k.
    longitude_within g.E.Enclosure.shown g.E.Enclosure.BITS v c.args.days c.args.c c.periodic.result c.add-3.result e h
    k (c.periodic.ensures.measured v e b h)
    (λ r p q s d m a.
    c.add-3.ensures.encloses.narrow r _ _ (c.add-2.ensures.encloses.narrow r _ _
    (c.add.ensures.encloses.narrow r _ _ (c.mean_longitude.ensures.narrow r p d) a) (c.aberration.ensures.narrow r p d))
    (c.nutation.ensures.encloses.narrow r q m))

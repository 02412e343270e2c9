use Rattle.sun_core.specs.Steps.{periodic_of}
use Rattle.sun_core.proofs.Measured.{periodic_within}
use Rattle.sun_core.proofs.Scalings.{unit_holds}
use Rattle.sun_core.proofs.longitude.periodic.Goals as goal

pub returns-clause-holds : goal.returns-clause-holds
unfolding periodic_of
returns-clause-holds g c = λ w x h.
    unit_holds g.E.Enclosure.shown w _ _ (c.mul_frac-2.ensures.encloses.holds w _
    (c.mul_frac.ensures.encloses.holds w _ (c.sun_terms.ensures.holds w x h)))

pub returns-clause-measured : goal.returns-clause-measured
returns-clause-measured g c = λ v e b h.
    periodic_within g.E.Enclosure.shown g.E.Enclosure.BITS v c.sun_terms.result c.mul_frac-2.result e
    (c.sun_terms.ensures.measured v e b h)
    (λ r x k. c.mul_frac-2.ensures.encloses.narrow r _ (c.mul_frac.ensures.encloses.narrow r x k))

use Rattle.moon_rise.specs.Computed.{computed_lifted_of}
use Rattle.moon_rise.proofs.Heights.{height_within}
use Rattle.moon_rise.proofs.altitudes.lifted.Goals as goal

pub returns-clause-measured : goal.returns-clause-measured
unfolding computed_lifted_of
returns-clause-measured g c = λ e h k l.
    height_within g.E.Enclosure.shown _ c.args.altitude c.args.distance c.args.depression c.add.result e k l
    (λ r x z u n m o. c.add.ensures.encloses.narrow r _ _
    (c.sub.ensures.encloses.narrow r _ _ n (c.parallax.ensures.narrow r x z n m)) o) h

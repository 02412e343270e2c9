use Rattle.std.proofs.Common.{arith, ◌+◌, ◌^◌}
use Rattle.moon_core.proofs.Measured.{half_within}
use Rattle.moon_core.proofs.phases.nearest_moon.Goals as goal

pub returns-clause-close : goal.returns-clause-close
returns-clause-close g c = λ v e b h.
    c.floor_step.ensures.close (v + 2 ^ 8) (omega (arith, b))
    (half_within g.E.Enclosure.shown _ v c.args.months c.from_frac.result c.add.result e h
    (λ r. c.from_frac.ensures.encloses.narrow r)
    (λ r p q. c.add.ensures.encloses.narrow r p q))

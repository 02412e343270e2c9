use Rattle.std.proofs.Common.{arith, ◌+◌, ◌^◌}
use Rattle.moon_core.specs.LinearModels.{number_of_phase}
use Rattle.moon_core.proofs.Measured.{number_within}
use Rattle.moon_core.proofs.numbers.number_of_phase.Goals as goal

pub returns-clause-leads : goal.returns-clause-leads
unfolding number_of_phase
returns-clause-leads g c = λ w x y h k.
    c.nearest_moon.ensures.leads w _ (c.sub.ensures.encloses.holds w _ _ h (c.mul_frac.ensures.encloses.holds w _ k))

pub returns-clause-close : goal.returns-clause-close
returns-clause-close g c = λ v e b m p.
    c.nearest_moon.ensures.close (v + 2 ^ 30) e (omega (arith, b))
    (number_within g.E.Enclosure.shown _ v c.args.months c.args.degrees c.mul_frac.result c.sub.result e m p
    (λ r x. c.mul_frac.ensures.encloses.narrow r x)
    (λ r x z. c.sub.ensures.encloses.narrow r x z))

use Rattle.std.proofs.Common.{arith, ◌+◌, ◌^◌}
use Rattle.day_facts.specs.Counts.{whole_signs_of}
use Rattle.day_facts.proofs.HinduWidths.{signs_within}
use Rattle.day_facts.proofs.zodiac.whole_signs.Goals as goal

pub returns-clause-leads : goal.returns-clause-leads
unfolding whole_signs_of
returns-clause-leads g c = λ w x h. c.floor_step.ensures.leads w _ (c.mul_frac.ensures.encloses.holds w _ h)

pub returns-clause-close : goal.returns-clause-close
returns-clause-close g c = λ v e b h.
    c.floor_step.ensures.close (v + 2 ^ 9) (omega (arith, b))
    (signs_within g.E.Enclosure.shown _ v c.args.longitude c.mul_frac.result e h
    (λ r p. c.mul_frac.ensures.encloses.narrow r p))

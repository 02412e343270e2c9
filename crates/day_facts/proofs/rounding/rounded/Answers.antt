use Rattle.std.proofs.Common.{arith, ◌+◌, ◌^◌}
use Rattle.std.proofs.lemmas.Result.{IfErr-weaker}
use Rattle.day_facts.proofs.DayLemmas.{round_not_of_year}
use Rattle.day_facts.proofs.SunsetWidths.{rounded_within}
use Rattle.day_facts.proofs.rounding.rounded.Goals as goal

pub returns-clause-close : goal.returns-clause-close
returns-clause-close g c = λ v e b h.
    c.floor_step.ensures.close (v + 2 ^ 9) (omega (arith, b))
    (rounded_within g.E.Enclosure.shown _ v c.args.number c.from_frac.result c.add.result e h
    (λ r. c.from_frac.ensures.encloses.narrow r)
    (λ r p q. c.add.ensures.encloses.narrow r p q))

pub returns-clause-early : goal.returns-clause-early
returns-clause-early g c = IfErr-weaker c.floor_step.result _ _ (λ f o. round_not_of_year _ f o)
    c.floor_step.ensures.open

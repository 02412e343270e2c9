use Rattle.std.proofs.Common.{arith, ◌+◌, ◌*◌, ◌^◌}
use Rattle.moon_core.specs.PickedLongitudes.{are_apart_of}
use Rattle.moon_core.proofs.Measured.{apart_within, straight_within}
use Rattle.moon_core.proofs.phases.is_apart.Goals as goal

pub returns-clause-leads : goal.returns-clause-leads
unfolding are_apart_of
returns-clause-leads g c = λ w p q h k. c.less_step.ensures.leads w _ _ (c.from_int.ensures.encloses.holds w h.deep)
    (c.size-apart.ensures.encloses.holds w _ (c.sub.ensures.encloses.holds w _ _ h k))

pub returns-clause-close : goal.returns-clause-close
returns-clause-close g c = λ v e b h k.
    let shown = g.E.Enclosure.shown in
    let a = apart_within shown _ v c.args.by_longitudes c.args.by_time c.sub.result c.size-apart.result e h k
    (λ r p q. c.sub.ensures.encloses.narrow r p q)
    (λ r p. c.size-apart.ensures.encloses.narrow r p) in
    c.less_step.ensures.close 0 (35 * v + 2 ^ 37) (omega (arith, b))
    (straight_within shown _ c.from_int.result e (λ r. c.from_int.ensures.encloses.narrow r)) a

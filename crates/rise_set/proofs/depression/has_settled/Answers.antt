use Rattle.std.proofs.Common.{arith, ◌^◌}
use Rattle.rise_set.proofs.Measured.{apart_within, half_minute_within}
use Rattle.rise_set.proofs.depression.has_settled.Goals as goal

pub returns-clause-close : goal.returns-clause-close
returns-clause-close g c = λ e h k.
    let shown = g.E.Enclosure.shown in
    c.less_step.ensures.close (2 ^ 34) (2 ^ 8) (omega arith)
    (apart_within shown _ c.args.old c.args.new c.sub.result c.size.result e h k
    (λ r p q. c.sub.ensures.encloses.narrow r p q)
    (λ r p. c.size.ensures.encloses.narrow r p))
    (half_minute_within shown _ c.from_frac.result e (λ r. c.from_frac.ensures.encloses.narrow r))

use Rattle.std.proofs.Common.{◌+◌, ◌^◌}
use Rattle.angle_search.proofs.Measured.{apart_within, near_within}
use Rattle.angle_search.proofs.bisection.are_near.Goals as goal

pub returns-clause-close : goal.returns-clause-close
returns-clause-close g c = λ v e b h k.
    let shown = g.E.Enclosure.shown in
    let d = apart_within shown _ v v c.args.high c.args.low c.sub.result e k h
    (λ r p q. c.sub.ensures.encloses.narrow r p q) in
    c.less_step.ensures.close (v + v) (2 ^ 8) b d
    (near_within shown _ c.from_frac.result e (λ r. c.from_frac.ensures.encloses.narrow r))

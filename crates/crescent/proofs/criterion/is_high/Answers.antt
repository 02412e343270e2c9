use Rattle.std.proofs.Common.{arith, ◌^◌}
use Rattle.crescent.proofs.Thresholds.{least_altitude_within}
use Rattle.crescent.proofs.criterion.is_high.Goals as goal

pub returns-clause-close : goal.returns-clause-close
returns-clause-close g c = λ v e b h.
    c.less_step.ensures.close (2 ^ 16) v (omega (arith, b))
    (least_altitude_within g.E.Enclosure.shown _ c.sin_deg-least.result e
    (λ r. c.sin_deg-least.ensures.encloses.narrow r _ (c.from_frac.ensures.encloses.narrow r))) h

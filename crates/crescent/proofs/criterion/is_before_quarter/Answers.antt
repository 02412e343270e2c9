use Rattle.std.proofs.Common.{arith, ◌^◌}
use Rattle.crescent.proofs.Thresholds.{quarter_within}
use Rattle.crescent.proofs.criterion.is_before_quarter.Goals as goal

pub returns-clause-close : goal.returns-clause-close
returns-clause-close g c = λ v e b h. c.less_step.ensures.close v (2 ^ 16) (omega (arith, b)) h
    (quarter_within g.E.Enclosure.shown _ c.from_int.result e (λ r. c.from_int.ensures.encloses.narrow r))

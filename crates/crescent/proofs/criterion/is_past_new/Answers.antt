use Rattle.std.proofs.Common.{arith, ◌^◌}
use Rattle.crescent.proofs.Thresholds.{none_within}
use Rattle.crescent.proofs.criterion.is_past_new.Goals as goal

pub returns-clause-close : goal.returns-clause-close
returns-clause-close g c = λ v e b h. c.less_step.ensures.close (2 ^ 16) v (omega (arith, b))
    (none_within g.E.Enclosure.shown _ c.from_int.result e (λ r. c.from_int.ensures.encloses.narrow r)) h

use Rattle.time_scales.proofs.Measured.{recent_centuries_within}
use Rattle.time_scales.proofs.dynamical_time.centuries.Goals as goal

pub returns-clause-recent : goal.returns-clause-recent
returns-clause-recent g c = λ v e b h. recent_centuries_within g.E.Enclosure.shown _ v c.in_ok-moment.moment
    c.to_centuries.result e b
    (c.in_ok-moment.ensures.recent v e b h) (λ r x. c.to_centuries.ensures.encloses.narrow r x)

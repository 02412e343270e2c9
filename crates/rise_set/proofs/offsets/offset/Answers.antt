use Rattle.rise_set.proofs.offsets.offset.Goals as goal

pub returns-clause-measured : goal.returns-clause-measured
returns-clause-measured g c = λ p d v e b h. c.offset_at.ensures.measured (c.horizon_at-horizon.ensures.measured e p d)
    v e b h

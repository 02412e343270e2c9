use Rattle.time_scales.proofs.ZoneWidths.{beijing_kept}
use Rattle.time_scales.proofs.zone.zone_beijing.Goals as goal

pub returns-clause-measured : goal.returns-clause-measured
returns-clause-measured g c = c.hours_at.ensures.measured 8
    (rw (c.zone_steps.ensures, c.last_hours.ensures) beijing_kept)

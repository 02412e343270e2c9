use Rattle.book_model.proofs.Places.{zone_kept}
use Rattle.time_scales.proofs.zone.zone_at.Goals as goal

pub returns-clause-measured : goal.returns-clause-measured
returns-clause-measured g c = c.hours_at.ensures.measured 24 (rw (c.zone_steps.ensures, c.last_hours.ensures)
    (zone_kept c.args.place))

use Rattle.std.proofs.Common.{length}
use Rattle.time_scales.proofs.zone.+hours_at.Given as goal

abbrev pub decreases-hours_at : goal.decreases-hours_at
decreases-hours_at g l = length l.steps.now

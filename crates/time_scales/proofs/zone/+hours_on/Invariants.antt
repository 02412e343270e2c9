use Rattle.std.proofs.Common.{length}
use Rattle.time_scales.proofs.zone.+hours_on.Given as goal

abbrev pub decreases-hours_on : goal.decreases-hours_on
decreases-hours_on l = length l.steps.now

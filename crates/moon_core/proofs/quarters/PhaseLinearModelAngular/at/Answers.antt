use Rattle.std.proofs.Common.{arith}
use Rattle.sun_core.proofs.SearchMeasured.{turn_measured}
use Rattle.moon_core.proofs.quarters.PhaseLinearModelAngular.at.Goals as goal

pub returns-clause-measured : goal.returns-clause-measured
returns-clause-measured g c = grind (arith, turn_measured)

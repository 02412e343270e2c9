use Rattle.std.proofs.Common.{arith, ◌+◌, ◌^◌}
use Rattle.angle_search.proofs.Measured.{found_measured}
use Rattle.angle_search.proofs.bisection.invert_angular.Goals as goal

pub returns-clause-measured : goal.returns-clause-measured
returns-clause-measured g c = λ v u e a b h k l.
    found_measured g.E.Enclosure.shown v c.bisected.result (c.bisected.ensures.measured v (v + 2 ^ 15) u e (omega arith)
    (omega (arith, a)) b h k l)

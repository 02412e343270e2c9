use Rattle.interval_endpoints.proofs.RootEndpoints.{cut_holds}
use Rattle.interval_endpoints.proofs.RootWidths.{clamp_narrow, clamp_of_all}
use Rattle.interval_endpoints.proofs.ranges.clamp_endpoints.Goals as goal

pub returns-in-Some-clause-holds : goal.returns-in-Some-clause-holds
returns-in-Some-clause-holds g c = rw c.in-Some.is (cut_holds g.I.MachineWord.scale _ _ _ _ c.cut_endpoints.ensures.lo
    c.cut_endpoints.ensures.hi)

pub returns-in-Some-clause-narrow : goal.returns-in-Some-clause-narrow
returns-in-Some-clause-narrow g c = λ w a h. clamp_narrow g.I.MachineWord.scale w a _ _ _ _ c.cut_endpoints.ensures.lo
    c.cut_endpoints.ensures.hi (rw c.in-Some.is at h)

pub returns-in-None-clause-narrow : goal.returns-in-None-clause-narrow
returns-in-None-clause-narrow g c = λ w a h. clamp_of_all w a _ (rw c.in-None.is at h)

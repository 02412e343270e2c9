use Rattle.std.proofs.Common.{refl}
use Rattle.interval_endpoints.proofs.Keeping.{sum_encloses, sum_narrow, sum_first, sum_second}
use Rattle.interval_endpoints.proofs.OnEndpoints.{shows}
use Rattle.interval_endpoints.proofs.sums.add_endpoints.Goals as goal

pub returns-clause-holds : goal.returns-clause-holds
returns-clause-holds g c = rw (c.in_ok-x.was, c.in_ok-y.was) (sum_encloses g.I.MachineWord.scale _ _ _ _ _ _ _ refl refl
    (shows _ _ _ c.sums.ensures.endpoints))

pub returns-clause-narrow : goal.returns-clause-narrow
returns-clause-narrow g c = λ w a b h k. sum_narrow g.I.MachineWord.scale w a b _ _ _ _ _ _ _ refl refl
    (shows _ _ _ c.sums.ensures.endpoints)
    (rw c.in_ok-x.was at h) (rw c.in_ok-y.was at k)

pub returns-in_err-x-clause-narrow : goal.returns-in_err-x-clause-narrow
returns-in_err-x-clause-narrow g c = λ w a b h k. sum_first g.I.MachineWord.scale w a b _ (rw c.in_err-x.was at h)

pub returns-in_err-y-clause-narrow : goal.returns-in_err-y-clause-narrow
returns-in_err-y-clause-narrow g c = λ w a b h k. sum_second g.I.MachineWord.scale w a b _ (rw c.in_err-y.was at k)

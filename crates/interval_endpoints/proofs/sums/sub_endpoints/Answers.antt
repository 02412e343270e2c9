use Rattle.std.proofs.Common.{refl}
use Rattle.interval_endpoints.proofs.Enclosing.{difference_encloses}
use Rattle.interval_endpoints.proofs.Widths.{difference_narrow, difference_of_all, difference_from_all}
use Rattle.interval_endpoints.proofs.OnEndpoints.{shows}
use Rattle.interval_endpoints.proofs.sums.sub_endpoints.Goals as goal

pub returns-clause-holds : goal.returns-clause-holds
returns-clause-holds g c = rw (c.in_ok-x.was, c.in_ok-y.was) (difference_encloses g.I.MachineWord.scale _ _ _ _ _ _ _
    refl refl
    (shows _ _ _ c.differences.ensures.endpoints))

pub returns-clause-narrow : goal.returns-clause-narrow
returns-clause-narrow g c = λ w a b h k. difference_narrow g.I.MachineWord.scale w a b _ _ _ _ _ _ _ refl refl
    (shows _ _ _ c.differences.ensures.endpoints)
    (rw c.in_ok-x.was at h) (rw c.in_ok-y.was at k)

pub returns-in_err-x-clause-narrow : goal.returns-in_err-x-clause-narrow
returns-in_err-x-clause-narrow g c = λ w a b h k. difference_of_all g.I.MachineWord.scale w a b _
    (rw c.in_err-x.was at h)

pub returns-in_err-y-clause-narrow : goal.returns-in_err-y-clause-narrow
returns-in_err-y-clause-narrow g c = λ w a b h k. difference_from_all g.I.MachineWord.scale w a b _
    (rw c.in_err-y.was at k)

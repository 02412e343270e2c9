use Rattle.interval_endpoints.proofs.Enclosing.{hull_is, hull_first, hull_second}
use Rattle.interval_endpoints.proofs.Widenings.{hull_narrow, hull_of_all, hull_with_all}
use Rattle.interval_endpoints.proofs.ranges.hull_endpoints.Goals as goal

pub returns-clause-holds : goal.returns-clause-holds
returns-clause-holds g c = rw (c.in_ok-x.was, c.in_ok-y.was)
    (hull_is g.I.MachineWord.scale _ _ _ _ _ _ c.min-lo.ensures.least
    c.max-hi.ensures.greatest).there

pub returns-clause-tight : goal.returns-clause-tight
returns-clause-tight g c = rw (c.in_ok-x.was, c.in_ok-y.was)
    (hull_is g.I.MachineWord.scale _ _ _ _ _ _ c.min-lo.ensures.least
    c.max-hi.ensures.greatest).back

pub returns-clause-narrow : goal.returns-clause-narrow
returns-clause-narrow g c = λ w a b h k. hull_narrow g.I.MachineWord.scale w a b _ _ _ _ _ _ c.min-lo.ensures.least
    c.max-hi.ensures.greatest
    (rw c.in_ok-x.was at h) (rw c.in_ok-y.was at k)

pub returns-in_err-x-clause-tight : goal.returns-in_err-x-clause-tight
returns-in_err-x-clause-tight g c = rw (c.from_residual.ensures, c.in_err-x.was) (hull_first _)

pub returns-in_err-y-clause-tight : goal.returns-in_err-y-clause-tight
returns-in_err-y-clause-tight g c = rw (c.from_residual-in_err-y.ensures, c.in_ok-x.was, c.in_err-y.was)
    (hull_second _ _)

pub returns-in_err-x-clause-narrow : goal.returns-in_err-x-clause-narrow
returns-in_err-x-clause-narrow g c = λ w a b h k. hull_of_all w a b _ (rw c.in_err-x.was at h)

pub returns-in_err-y-clause-narrow : goal.returns-in_err-y-clause-narrow
returns-in_err-y-clause-narrow g c = λ w a b h k. hull_with_all w a b _ (rw c.in_err-y.was at k)

use Rattle.interval_endpoints.proofs.Enclosing.{minimum_is, minimum_first, minimum_second, lesser_order}
use Rattle.interval_endpoints.proofs.Widths.{minimum_narrow, minimum_of_all, minimum_with_all}
use Rattle.interval_endpoints.proofs.ranges.min_endpoints.Goals as goal

pub returns-clause-holds : goal.returns-clause-holds
returns-clause-holds g c = rw (c.in_ok-x.was, c.in_ok-y.was)
    (minimum_is g.I.MachineWord.scale _ _ _ _ _ _ c.min-lo.ensures.least
    c.min-hi.ensures.least).there

pub returns-clause-tight : goal.returns-clause-tight
returns-clause-tight g c = rw (c.in_ok-x.was, c.in_ok-y.was)
    (minimum_is g.I.MachineWord.scale _ _ _ _ _ _ c.min-lo.ensures.least
    c.min-hi.ensures.least).back

pub returns-clause-narrow : goal.returns-clause-narrow
returns-clause-narrow g c = λ w a b h k. minimum_narrow g.I.MachineWord.scale w a b _ _ _ _ _ _ c.min-lo.ensures.least
    c.min-hi.ensures.least
    (rw c.in_ok-x.was at h) (rw c.in_ok-y.was at k)

pub returns-in_err-x-clause-tight : goal.returns-in_err-x-clause-tight
returns-in_err-x-clause-tight g c = rw (c.from_residual.ensures, c.in_err-x.was) (minimum_first _)

pub returns-in_err-y-clause-tight : goal.returns-in_err-y-clause-tight
returns-in_err-y-clause-tight g c = rw (c.from_residual-in_err-y.ensures, c.in_ok-x.was, c.in_err-y.was)
    (minimum_second _ _)

pub returns-in_err-x-clause-narrow : goal.returns-in_err-x-clause-narrow
returns-in_err-x-clause-narrow g c = λ w a b h k. minimum_of_all w a b _ (rw c.in_err-x.was at h)

pub returns-in_err-y-clause-narrow : goal.returns-in_err-y-clause-narrow
returns-in_err-y-clause-narrow g c = λ w a b h k. minimum_with_all w a b _ (rw c.in_err-y.was at k)

pub invariant_of-result : goal.invariant_of-result
invariant_of-result g c = record {
  ordered = lesser_order _ _ _ _ _ _ c.in_ok-x.x.ordered c.in_ok-y.y.ordered c.min-lo.ensures.least
      c.min-hi.ensures.least;
}

use Rattle.std.proofs.Common.{arith}
use Rattle.std.proofs.lemmas.Int.{ints}
use Rattle.interval_endpoints.proofs.Ratios.{quotient_none, quotient_of_all, quotient_by_all}
use Rattle.interval_products.proofs.dividing.div_endpoints.Goals as goal

pub returns-in_err-x-clause-narrow : goal.returns-in_err-x-clause-narrow
returns-in_err-x-clause-narrow g c = λ w a b h k. quotient_of_all g.I.MachineWord.scale w a b _ (rw c.in_err-x.was at h)

pub returns-in_err-y-clause-narrow : goal.returns-in_err-y-clause-narrow
returns-in_err-y-clause-narrow g c = λ w a b h k. quotient_by_all g.I.MachineWord.scale w a b _ (rw c.in_err-y.was at k)

pub returns-then-wide-lt0-clause-narrow : goal.returns-then-wide-lt0-clause-narrow
returns-then-wide-lt0-clause-narrow g c = λ w a b h k. quotient_none g.I.MachineWord.scale w a b
    (g.I.MachineWord.value c.in_ok-x.x.lo) _ _ _ _
    (λ n. omega (arith, ints, n, c.if-wide-gt0.false, c.wide.ensures.value)) h (rw c.in_ok-y.was at k)

pub returns-clause-narrow : goal.returns-clause-narrow
returns-clause-narrow g c = λ w a b h k. quotient_none g.I.MachineWord.scale w a b
    (g.I.MachineWord.value c.in_ok-x.x.lo) _ _ _ _
    (λ n. omega (arith, ints, n, c.if-wide-gt0.false, c.wide.ensures.value)) h (rw c.in_ok-y.was at k)

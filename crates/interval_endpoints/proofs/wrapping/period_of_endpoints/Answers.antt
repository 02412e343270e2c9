use Rattle.std.proofs.Common.{rules, refl, sym}
use Rattle.interval_endpoints.proofs.Periods.{period_same, period_apart, period_nowhere}
use Rattle.interval_endpoints.proofs.wrapping.period_of_endpoints.Goals as goal

pub returns-in_err-e-clause-none : goal.returns-in_err-e-clause-none
returns-in_err-e-clause-none g c = λ h. rw c.in_err-e.was (sym (period_nowhere _))

pub returns-then-is_equal-clause-value : goal.returns-then-is_equal-clause-value
returns-then-is_equal-clause-value g c = rw c.in_ok-e.was (sym
    (period_same g.I.MachineWord.scale _ _ _ _ _ _ (rw c.floor.ensures.value at c.period-period.ensures.value)
    (rw c.floor-2.ensures.value at c.period.ensures.value) (search rules) refl))

pub returns-else-is_equal-clause-none : goal.returns-else-is_equal-clause-none
returns-else-is_equal-clause-none g c = λ h. rw c.in_ok-e.was (sym
    (period_apart g.I.MachineWord.scale _ _ _ _ _ (rw c.floor.ensures.value at c.period-period.ensures.value)
    (rw c.floor-2.ensures.value at c.period.ensures.value) (λ e. search rules)))

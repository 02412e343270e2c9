use Rattle.std.proofs.Common.{rules, refl, sym}
use Rattle.interval_endpoints.proofs.Testing.{cell_same, cell_apart, cell_nowhere}
use Rattle.interval_endpoints.proofs.comparing.cell_of_endpoints.Goals as goal

pub returns-in_err-e-clause-none : goal.returns-in_err-e-clause-none
returns-in_err-e-clause-none g c = λ h. rw c.in_err-e.was (sym cell_nowhere)

pub returns-then-is_equal-clause-value : goal.returns-then-is_equal-clause-value
returns-then-is_equal-clause-value g c = rw c.in_ok-e.was (sym
    (cell_same g.I.MachineWord.scale _ _ _ _ _ c.floor-cell.ensures.value c.floor.ensures.value (search rules) refl))

pub returns-else-is_equal-clause-none : goal.returns-else-is_equal-clause-none
returns-else-is_equal-clause-none g c = λ h. rw c.in_ok-e.was (sym
    (cell_apart g.I.MachineWord.scale _ _ _ _ c.floor-cell.ensures.value c.floor.ensures.value (λ e. search rules)))

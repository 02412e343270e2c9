use Rattle.std.proofs.Common.{arith, refl}
use Rattle.std.proofs.lemmas.Grind.{common_steps}
use Rattle.shelf_core.proofs.rows.first_rows_of.Goals as goal

pub loop-table-init : goal.loop-table-init
loop-table-init g c = record { rows = rw c.in_ok-rows.ensures.items refl; before = omega arith }

pub loop-table-preserved : goal.loop-table-preserved
loop-table-preserved g c = record { rows = grind (arith, common_steps); before = grind (arith, common_steps) }

pub returns : goal.returns
returns g c = record { rows = grind (arith, common_steps) }

use Rattle.std.proofs.Common.{arith}
use Rattle.std.proofs.lemmas.Grind.{common_steps}
use Rattle.shelf_core.proofs.rows.rows_among.Goals as goal

pub loop-table-init : goal.loop-table-init
loop-table-init g c = omega arith

pub loop-table-preserved : goal.loop-table-preserved
loop-table-preserved g c = grind (arith, common_steps)

pub returns : goal.returns
returns g c = grind (arith, common_steps)

use Rattle.std.proofs.Common.{arith}
use Rattle.std.proofs.lemmas.Grind.{common_steps}
use Rattle.shelf_core.proofs.rows.column.Goals as goal

pub loop-places-preserved : goal.loop-places-preserved
loop-places-preserved c = (grind (arith, common_steps), grind (arith, common_steps))

pub returns-clause-column : goal.returns-clause-column
returns-clause-column c = grind (arith, common_steps)

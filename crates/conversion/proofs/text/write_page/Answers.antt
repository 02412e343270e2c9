use Rattle.byte_streams.proofs.Flow.{prefix_none}
use Rattle.conversion.proofs.text.write_page.Goals as goal

pub returns-in-Ok-clause-err : goal.returns-in-Ok-clause-err
returns-in-Ok-clause-err g c = rw c.requires.empty at (rw c.in-Ok.ensures.ok at c.write_rows.ensures.err)

pub returns-in-Err-clause-err : goal.returns-in-Err-clause-err
returns-in-Err-clause-err g c = prefix_none _ _

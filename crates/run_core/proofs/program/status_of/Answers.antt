use Rattle.std.proofs.Common.{rules}
use Rattle.run_core.proofs.program.status_of.Goals as goal

pub returns-in-Ok-true : goal.returns-in-Ok-true
returns-in-Ok-true c = search rules

pub returns-in-Ok-false : goal.returns-in-Ok-false
returns-in-Ok-false c = search rules

pub returns-in-Err-Fault : goal.returns-in-Err-Fault
returns-in-Err-Fault c = search rules

pub returns-in-Err-Memory : goal.returns-in-Err-Memory
returns-in-Err-Memory c = search rules

use Rattle.std.proofs.Common.{rules, arith}
use Rattle.byte_streams.proofs.Flow.{writing}
use Rattle.run_core.proofs.check.put_verdict.Goals as goal

pub returns-in_err-number-clause-ok : goal.returns-in_err-number-clause-ok
returns-in_err-number-clause-ok g c = search rules

pub returns-in_err-number-clause-err : goal.returns-in_err-number-clause-err
returns-in_err-number-clause-err g c = search (rules, writing)

pub returns-in_err-number-clause-fault : goal.returns-in_err-number-clause-fault
returns-in_err-number-clause-fault g c = search rules

pub returns-in_err-number-clause-later : goal.returns-in_err-number-clause-later
returns-in_err-number-clause-later g c = search rules

pub returns-in_err-write_if_many-in-Ok-clause-ok : goal.returns-in_err-write_if_many-in-Ok-clause-ok
returns-in_err-write_if_many-in-Ok-clause-ok g c = search rules

pub returns-in_err-write_if_many-in-Ok-clause-err : goal.returns-in_err-write_if_many-in-Ok-clause-err
returns-in_err-write_if_many-in-Ok-clause-err g c = search (rules, writing)

pub returns-in_err-write_if_many-in-Ok-clause-fault : goal.returns-in_err-write_if_many-in-Ok-clause-fault
returns-in_err-write_if_many-in-Ok-clause-fault g c = search rules

pub returns-in_err-write_if_many-in-Ok-clause-later : goal.returns-in_err-write_if_many-in-Ok-clause-later
returns-in_err-write_if_many-in-Ok-clause-later g c = search rules

pub returns-in_ok-write_if_many-in-Ok-clause-ok : goal.returns-in_ok-write_if_many-in-Ok-clause-ok
returns-in_ok-write_if_many-in-Ok-clause-ok g c = grind (arith, writing)

pub returns-in_ok-write_if_many-in-Ok-clause-fault : goal.returns-in_ok-write_if_many-in-Ok-clause-fault
returns-in_ok-write_if_many-in-Ok-clause-fault g c = search rules

pub returns-in_ok-write_if_many-in-Ok-clause-later : goal.returns-in_ok-write_if_many-in-Ok-clause-later
returns-in_ok-write_if_many-in-Ok-clause-later g c = search rules

pub returns-in-Err-clause-err : goal.returns-in-Err-clause-err
returns-in-Err-clause-err g c = search (rules, writing)

pub returns-in-Err-clause-fault : goal.returns-in-Err-clause-fault
returns-in-Err-clause-fault g c = search rules

pub returns-in-Err-clause-later : goal.returns-in-Err-clause-later
returns-in-Err-clause-later g c = search rules

use Rattle.std.proofs.Common.{rules}
use Rattle.byte_streams.proofs.Flow.{writing}
use Rattle.run_core.proofs.check.put_counts.Goals as goal

pub returns-in_err-yes-clause-ok : goal.returns-in_err-yes-clause-ok
returns-in_err-yes-clause-ok g c = search rules

pub returns-in_err-yes-clause-err : goal.returns-in_err-yes-clause-err
returns-in_err-yes-clause-err g c = search (rules, writing)

pub returns-in_err-yes-clause-fault : goal.returns-in_err-yes-clause-fault
returns-in_err-yes-clause-fault g c = search rules

pub returns-in_err-yes-clause-later : goal.returns-in_err-yes-clause-later
returns-in_err-yes-clause-later g c = search rules

pub returns-in_err-no-clause-ok : goal.returns-in_err-no-clause-ok
returns-in_err-no-clause-ok g c = search rules

pub returns-in_err-no-clause-err : goal.returns-in_err-no-clause-err
returns-in_err-no-clause-err g c = search (rules, writing)

pub returns-in_err-no-clause-fault : goal.returns-in_err-no-clause-fault
returns-in_err-no-clause-fault g c = search rules

pub returns-in_err-no-clause-later : goal.returns-in_err-no-clause-later
returns-in_err-no-clause-later g c = search rules

pub returns-in_err-skip-clause-ok : goal.returns-in_err-skip-clause-ok
returns-in_err-skip-clause-ok g c = search rules

pub returns-in_err-skip-clause-err : goal.returns-in_err-skip-clause-err
returns-in_err-skip-clause-err g c = search (rules, writing)

pub returns-in_err-skip-clause-fault : goal.returns-in_err-skip-clause-fault
returns-in_err-skip-clause-fault g c = search rules

pub returns-in_err-skip-clause-later : goal.returns-in_err-skip-clause-later
returns-in_err-skip-clause-later g c = search rules

pub returns-in_err-write_if_many-in-Ok-clause-ok : goal.returns-in_err-write_if_many-in-Ok-clause-ok
returns-in_err-write_if_many-in-Ok-clause-ok g c = search rules

pub returns-in_err-write_if_many-in-Ok-clause-err : goal.returns-in_err-write_if_many-in-Ok-clause-err
returns-in_err-write_if_many-in-Ok-clause-err g c = search (rules, writing)

pub returns-in_err-write_if_many-in-Ok-clause-fault : goal.returns-in_err-write_if_many-in-Ok-clause-fault
returns-in_err-write_if_many-in-Ok-clause-fault g c = search rules

pub returns-in_err-write_if_many-in-Ok-clause-later : goal.returns-in_err-write_if_many-in-Ok-clause-later
returns-in_err-write_if_many-in-Ok-clause-later g c = search rules

pub returns-in_ok-write_if_many-in-Ok-clause-fault : goal.returns-in_ok-write_if_many-in-Ok-clause-fault
returns-in_ok-write_if_many-in-Ok-clause-fault g c = search rules

pub returns-in_ok-write_if_many-in-Ok-clause-later : goal.returns-in_ok-write_if_many-in-Ok-clause-later
returns-in_ok-write_if_many-in-Ok-clause-later g c = search rules

pub returns-in-Err-clause-err : goal.returns-in-Err-clause-err
returns-in-Err-clause-err g c = search (rules, writing)

pub returns-in-Err-clause-fault : goal.returns-in-Err-clause-fault
returns-in-Err-clause-fault g c = search rules

pub returns-in-Err-clause-later : goal.returns-in-Err-clause-later
returns-in-Err-clause-later g c = search rules

use Rattle.run_core.proofs.WorkLemmas.{fault_ended, memory_ended}
use Rattle.run_core.proofs.in_memory.check_bytes.Goals as goal

pub returns-then-input-le-LONGEST_FILE-clause-cut : goal.returns-then-input-le-LONGEST_FILE-clause-cut
returns-then-input-le-LONGEST_FILE-clause-cut g c e =
    fault_ended _ c.check_alone.result (rw c.status_of_check.ensures.status at e) c.check_alone.ensures.performs.fault

pub returns-then-input-le-LONGEST_FILE-clause-memory : goal.returns-then-input-le-LONGEST_FILE-clause-memory
returns-then-input-le-LONGEST_FILE-clause-memory g c e =
    memory_ended _ c.check_alone.result (rw c.status_of_check.ensures.status at e) c.check_alone.ensures.performs.memory

use Rattle.byte_streams.proofs.Flow.{writes_first, writes_then}
use Rattle.cert_text.proofs.write.write_block.Goals as goal

pub returns-in_err-write_facts : goal.returns-in_err-write_facts
returns-in_err-write_facts g c = writes_first _ c.from_residual.ensures.0
    (rw c.entries.ensures.entries at c.in_err-write_facts.ensures)

pub returns : goal.returns
returns g c = writes_then (rw c.entries.ensures.entries at c.in_ok-write_facts.ensures) c.write_line.ensures

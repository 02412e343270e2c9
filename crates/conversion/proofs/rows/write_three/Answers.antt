use Rattle.byte_streams.proofs.Flow.{writes_first, writes_then}
use Rattle.conversion.proofs.rows.write_three.Goals as goal

pub returns-in_err-write_prefix : goal.returns-in_err-write_prefix
returns-in_err-write_prefix g c = writes_first _ c.from_residual.ensures.0 c.in_err-write_prefix.ensures

pub returns-in_err-write_all : goal.returns-in_err-write_all
returns-in_err-write_all g c = writes_then c.in_ok-write_prefix.ensures
    (writes_first _ c.from_residual-in_err-write_all.ensures.0 c.in_err-write_all.ensures)

pub returns : goal.returns
returns g c = writes_then c.in_ok-write_prefix.ensures (writes_then c.in_ok-write_all.ensures c.write_last.ensures)

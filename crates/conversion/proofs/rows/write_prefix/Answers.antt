use Rattle.byte_streams.proofs.Flow.{writes_first, writes_then}
use Rattle.conversion.proofs.rows.write_prefix.Goals as goal

pub returns-in_err-write_all : goal.returns-in_err-write_all
returns-in_err-write_all g c = writes_first _ c.from_residual.ensures.0 c.in_err-write_all.ensures

pub returns-in_err-write_spaced : goal.returns-in_err-write_spaced
returns-in_err-write_spaced g c = writes_then c.in_ok-write_all.ensures
    (writes_first _ c.from_residual-in_err-write_spaced.ensures.0
    (rw c.decimal.ensures at c.in_err-write_spaced.ensures))

pub returns : goal.returns
returns g c = writes_then c.in_ok-write_all.ensures (writes_then (rw c.decimal.ensures at c.in_ok-write_spaced.ensures)
    c.write_spaced-2.ensures)

use Rattle.byte_streams.proofs.Flow.{writes_first, writes_then}
use Rattle.conversion.proofs.rows.write_request.Goals as goal

pub returns-in_err-write_prefix : goal.returns-in_err-write_prefix
returns-in_err-write_prefix g c =
    writes_first _ c.from_residual.ensures.0 (rw (c.as_bytes.ensures.value, c.name.ensures.name) at
    c.in_err-write_prefix.ensures)

pub returns-in_err-write_date : goal.returns-in_err-write_date
returns-in_err-write_date g c =
    writes_then (rw (c.as_bytes.ensures.value, c.name.ensures.name) at c.in_ok-write_prefix.ensures)
    (writes_first _ c.from_residual-in_err-write_date.ensures.0
    (rw c.calendar.ensures.calendar at c.in_err-write_date.ensures))

pub returns : goal.returns
returns g c =
    writes_then (rw (c.as_bytes.ensures.value, c.name.ensures.name) at c.in_ok-write_prefix.ensures)
    (writes_then (rw c.calendar.ensures.calendar at c.in_ok-write_date.ensures)
    (rw (c.as_bytes-2.ensures.value, c.name-2.ensures.name) at c.write_last.ensures))

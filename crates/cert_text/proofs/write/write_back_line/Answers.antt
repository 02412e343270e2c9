use Rattle.byte_streams.proofs.Flow.{writes_first, writes_then}
use Rattle.cert_text.proofs.write.write_back_line.Goals as goal

pub returns-in_err-write_echo : goal.returns-in_err-write_echo
returns-in_err-write_echo g c = writes_first _ c.from_residual.ensures.0 c.in_err-write_echo.ensures

pub returns-in_err-write_no_date : goal.returns-in_err-write_no_date
returns-in_err-write_no_date g c = writes_then c.in_ok-write_echo.ensures
    (writes_first _ c.from_residual-in_err-write_no_date.ensures.0 c.in_err-write_no_date.ensures)

pub returns : goal.returns
returns g c = writes_then c.in_ok-write_echo.ensures (writes_then c.in_ok-write_no_date.ensures c.write_list.ensures)

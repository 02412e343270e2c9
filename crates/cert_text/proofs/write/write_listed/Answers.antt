use Rattle.byte_streams.proofs.Flow.{writes_first, writes_then}
use Rattle.cert_text.proofs.write.write_listed.Goals as goal

pub returns-in_err-write_echo : goal.returns-in_err-write_echo
returns-in_err-write_echo g c = writes_first _ c.from_residual.ensures.0 c.in_err-write_echo.ensures

pub returns-in_err-write_all : goal.returns-in_err-write_all
returns-in_err-write_all g c = writes_then c.in_ok-write_echo.ensures
    (writes_first _ c.from_residual-in_err-write_all.ensures.0 c.in_err-write_all.ensures)

pub returns : goal.returns
returns g c = writes_then c.in_ok-write_echo.ensures (writes_then c.in_ok-write_all.ensures c.write_list.ensures)

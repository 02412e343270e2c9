use Rattle.byte_streams.proofs.Flow.{writes_first, writes_then}
use Rattle.cert_check.proofs.write.write_date.Goals as goal

pub returns-in_err-write_date_head : goal.returns-in_err-write_date_head
returns-in_err-write_date_head g c = writes_first _ c.from_residual.ensures.0 c.in_err-write_date_head.ensures

pub returns : goal.returns
returns g c = writes_then c.in_ok-write_date_head.ensures c.write_found.ensures

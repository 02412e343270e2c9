use Rattle.byte_streams.proofs.Flow.{writes_first, writes_then}
use Rattle.cert_check.proofs.write.write_found.Goals as goal

pub returns-in_err-write_result : goal.returns-in_err-write_result
returns-in_err-write_result g c = writes_first _ c.from_residual.ensures.0 c.in_err-write_result.ensures

pub returns : goal.returns
returns g c = writes_then c.in_ok-write_result.ensures c.write_all.ensures

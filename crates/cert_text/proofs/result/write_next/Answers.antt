use Rattle.std.proofs.Common.{rules, ◌≡◌, w32, to_z, of_z}
use Rattle.byte_streams.proofs.Flow.{writes_first, writes_then}
use Rattle.cert_text.proofs.result.write_next.Goals as goal

pub returns-in_err-write_all : goal.returns-in_err-write_all
returns-in_err-write_all g c = writes_first _ c.from_residual.ensures.0 c.in_err-write_all.ensures

pub returns : goal.returns
returns g c =
    let value : to_z w32 (of_z w32 c.args.value) ≡ c.args.value = search rules in
    writes_then c.in_ok-write_all.ensures (rw value at c.write_number.ensures)

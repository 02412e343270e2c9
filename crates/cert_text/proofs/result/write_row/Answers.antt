use Rattle.std.proofs.Common.{rules, ◌≡◌, w32, to_z, of_z}
use Rattle.byte_streams.proofs.Flow.{writes_first, writes_then}
use Rattle.cert_text.proofs.result.write_row.Goals as goal

pub returns-in_err-write_number : goal.returns-in_err-write_number
returns-in_err-write_number g c =
    let first : to_z w32 (of_z w32 c.args.first) ≡ c.args.first = search rules in
    writes_first _ c.from_residual.ensures.0 (rw first at c.in_err-write_number.ensures)

pub returns : goal.returns
returns g c =
    let first : to_z w32 (of_z w32 c.args.first) ≡ c.args.first = search rules in
    writes_then (rw first at c.in_ok-write_number.ensures) c.write_others.ensures

use Rattle.std.proofs.Common.{rules, ◌≡◌, w64, to_z, of_z}
use Rattle.byte_streams.proofs.Flow.{writes_first, writes_then}
use Rattle.cert_text.proofs.write.write_far_line.Goals as goal

pub returns-in_err-write_echo : goal.returns-in_err-write_echo
returns-in_err-write_echo g c = writes_first _ c.from_residual.ensures.0 c.in_err-write_echo.ensures

pub returns-in_err-write_too_far : goal.returns-in_err-write_too_far
returns-in_err-write_too_far g c =
    let day : to_z w64 (of_z w64 c.args.day) ≡ c.args.day = search rules in
    writes_then c.in_ok-write_echo.ensures (writes_first _ c.from_residual-in_err-write_too_far.ensures.0
    (rw day at c.in_err-write_too_far.ensures))

pub returns : goal.returns
returns g c =
    let day : to_z w64 (of_z w64 c.args.day) ≡ c.args.day = search rules in
    writes_then c.in_ok-write_echo.ensures (writes_then (rw day at c.in_ok-write_too_far.ensures) c.write_list.ensures)

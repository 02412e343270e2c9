use Rattle.std.proofs.Common.{rules, arith, ◌≡◌, get_or, pos, w32, to_z, of_z}
use Rattle.book_model.specs.lines.Text.{dash_text}
use Rattle.byte_streams.proofs.Flow.{wrote_part, writes_up_to}
use Rattle.cert_text.proofs.result.write_others.Goals as goal

pub loop-value-preserved : goal.loop-value-preserved
loop-value-preserved g c =
    let value : to_z w32 (of_z w32 (get_or c.args.values.now c.loop-value.value-index (pos 0)))
    ≡ get_or c.args.values.now c.loop-value.value-index (pos 0) = search rules in
    record {
      wrote = wrote_part dash_text _ _ _ _ c.args.values.now c.loop-value.value-index _ c.loop-value-test.true
          c.loop-value.invariant.wrote
          (rw value at c.in_ok-write_next.ensures.ok);
      later = omega (arith, c.in_ok-write_next.ensures.cause.later);
    }

pub returns-in_err-write_next : goal.returns-in_err-write_next
returns-in_err-write_next g c =
    let value : to_z w32 (of_z w32 (get_or c.args.values.now c.loop-value.value-index (pos 0)))
    ≡ get_or c.args.values.now c.loop-value.value-index (pos 0) = search rules in
    writes_up_to dash_text c.args.values.now c.loop-value.value-index _ c.from_residual.ensures.0 c.loop-value-test.true
    c.loop-value.invariant.wrote
    c.loop-value.invariant.later
    (rw value at c.in_err-write_next.ensures)

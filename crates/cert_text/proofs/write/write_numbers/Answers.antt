use Rattle.std.proofs.Common.{arith}
use Rattle.book_model.specs.lines.Text.{number_text}
use Rattle.byte_streams.proofs.Flow.{wrote_part, writes_up_to}
use Rattle.cert_text.proofs.write.write_numbers.Goals as goal

pub loop-number-preserved : goal.loop-number-preserved
loop-number-preserved g c = record {
  wrote = wrote_part number_text _ _ _ _ c.args.numbers.now c.loop-number.number-index _ c.loop-number-test.true
      c.loop-number.invariant.wrote
      c.in_ok-write_number.ensures.ok;
  later = omega (arith, c.in_ok-write_number.ensures.cause.later);
}

pub returns-in_err-write_number : goal.returns-in_err-write_number
returns-in_err-write_number g c =
    writes_up_to number_text c.args.numbers.now c.loop-number.number-index _ c.from_residual.ensures.0
    c.loop-number-test.true c.loop-number.invariant.wrote
    c.loop-number.invariant.later
    c.in_err-write_number.ensures

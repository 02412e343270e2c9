use Rattle.std.proofs.Common.{arith}
use Rattle.byte_streams.proofs.Flow.{wrote_part, writes_up_to}
use Rattle.byte_streams.proofs.parts.write_parts.Goals as goal

pub loop-part-preserved : goal.loop-part-preserved
loop-part-preserved g c = record {
  wrote = wrote_part (λ part. part.now) _ _ _ _ c.args.parts.now c.loop-part.part-index _ c.loop-part-test.true
      c.loop-part.invariant.wrote
      c.in_ok-write_all.ensures.ok;
  later = omega (arith, c.in_ok-write_all.ensures.cause.later);
}

pub returns-in_err-write_all : goal.returns-in_err-write_all
returns-in_err-write_all g c =
    writes_up_to (λ part. part.now) c.args.parts.now c.loop-part.part-index _ c.from_residual.ensures.0
    c.loop-part-test.true c.loop-part.invariant.wrote
    c.loop-part.invariant.later
    c.in_err-write_all.ensures

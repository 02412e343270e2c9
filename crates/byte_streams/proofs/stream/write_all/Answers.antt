use Rattle.std.proofs.Common.{arith}
use Rattle.std.proofs.lemmas.List.{take_rest}
use Rattle.byte_streams.proofs.Flow.{wrote_take}
use Rattle.byte_streams.proofs.stream.write_all.Goals as goal

pub loop-rest-preserved : goal.loop-rest-preserved
loop-rest-preserved g c = record {
  wrote = simp take_rest (wrote_take _ _ _ _ _ c.in_ok-count.count c.loop-rest.invariant.wrote
      c.in_ok-count.ensures.bytes);
  later = omega (arith, c.in_ok-count.ensures.cause.later);
}

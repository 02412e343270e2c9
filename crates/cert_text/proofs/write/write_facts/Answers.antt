use Rattle.std.proofs.Common.{arith}
use Rattle.cert_text.proofs.Writing.{wrote_fact, writes_up_to_fact}
use Rattle.cert_text.proofs.write.write_facts.Goals as goal

pub loop-index-preserved : goal.loop-index-preserved
loop-index-preserved g c = record {
  wrote = wrote_fact _ _ _ _ c.args.first c.args.facts.now c.loop-index.index _ c.loop-index-test.true
      c.loop-index.invariant.wrote
      c.in_ok-write_fact.ensures.ok;
  later = omega (arith, c.in_ok-write_fact.ensures.cause.later);
}

pub returns-in_err-write_fact : goal.returns-in_err-write_fact
returns-in_err-write_fact g c =
    writes_up_to_fact c.args.first c.args.facts.now c.loop-index.index _ c.from_residual.ensures.0
    c.loop-index-test.true c.loop-index.invariant.wrote
    c.loop-index.invariant.later
    c.in_err-write_fact.ensures

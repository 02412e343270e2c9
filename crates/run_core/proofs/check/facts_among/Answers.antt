use Rattle.std.proofs.Common.{refl, arith}
use Rattle.run_core.proofs.CheckLemmas.{mapped_on, mapped_whole}
use Rattle.run_core.proofs.check.facts_among.Goals as goal

pub loop-pair-preserved : goal.loop-pair-preserved
loop-pair-preserved c = mapped_on (λ pair. pair.0) _ _ _ c.loop-pair.pair-index c.args.pairs.now _ _
    c.loop-pair-test.true refl c.loop-pair.invariant
    c.in_ok-push.ensures.items

pub returns : goal.returns
returns c = record {
  facts = mapped_whole (λ pair. pair.0) _ c.loop-pair.pair-index c.args.pairs.now _ (omega arith)
      c.loop-pair.invariant;
}

use Rattle.fact_eval.proofs.Sharing.{taken}
use Rattle.fact_eval.proofs.shared.found.Goals as goal

pub returns : goal.returns
returns c = record {
  right = taken c.word_of.result c.args.asked c.in_ok-endpoints.endpoints c.in_ok-endpoints.ensures.evaluated
      c.word_of.ensures.asked c.word_of.ensures.low c.word_of.ensures.high;
}

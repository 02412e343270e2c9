use Rattle.fact_eval.proofs.Sharing.{lent}
use Rattle.fact_eval.proofs.shared.Shared.lend_one.Goals as goal

pub keep-requires-clause-evaluated : goal.keep-requires-clause-evaluated
keep-requires-clause-evaluated c =
    lent c.load-word.result c.asked.result c.endpoints.result c.load-word.ensures c.if-word-ne0.true
    c.asked.ensures c.endpoints.ensures.low c.endpoints.ensures.high

use Rattle.std.proofs.Common.{arith}
use Rattle.encl_core.proofs.TermSums.{terms_all}
use Rattle.encl_core.proofs.sums.sum_of_terms.Goals as goal

pub returns-clause-narrow : goal.returns-clause-narrow
returns-clause-narrow g c =
    λ r a none k. rw (terms_all (g.T.Term.computed_of a) none c.args.rows.now c.loop-row.row-index
    (omega (arith, c.loop-row.auto.row-index-end, c.loop-row-test.false))) (c.loop-row.invariant.1 r a none k)

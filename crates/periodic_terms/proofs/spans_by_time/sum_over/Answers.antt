use Rattle.std.proofs.Common.{arith}
use Rattle.std.proofs.lemmas.Int.{ints}
use Rattle.periodic_terms.proofs.spans_by_time.sum_over.Goals as goal

pub returns-in-Some-clause-narrow : goal.returns-in-Some-clause-narrow
returns-in-Some-clause-narrow c = λ k. record {
  narrow = omega (arith, ints, c.common.ensures.close, c.in-Some.ensures.narrow);
  above = omega (arith, ints, c.common.ensures.above, c.any_sum-any.ensures.low);
  below = omega (arith, ints, c.common.ensures.below, c.any_sum-any.ensures.high);
}

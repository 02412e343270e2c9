use Rattle.std.proofs.Common.{arith}
use Rattle.std.proofs.lemmas.Int.{ints, clamps}
use Rattle.int_division.proofs.order.greatest_of.Goals as goal

pub returns-clause-best : goal.returns-clause-best
returns-clause-best c = λ m p q r s. omega (arith, ints, clamps)

pub returns-clause-bounds : goal.returns-clause-bounds
returns-clause-bounds c = omega (arith, ints, clamps)

use Rattle.std.proofs.Common.{arith}
use Rattle.std.proofs.lemmas.Bool.Decides.{nat_tests}
use Rattle.line_core.proofs.fields.is_within.Goals as goal

pub returns-then-least-number : goal.returns-then-least-number
returns-then-least-number c = record { within = grind (arith, nat_tests) }

pub returns-else-least-number : goal.returns-else-least-number
returns-else-least-number c = record { within = grind (arith, nat_tests) }

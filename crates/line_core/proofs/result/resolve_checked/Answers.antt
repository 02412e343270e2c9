use Rattle.std.proofs.Common.{arith}
use Rattle.oracle_core.proofs.Inquiring.{asking}
use Rattle.book_model.specs.lines.LineRules.{rule_of}
use Rattle.line_core.proofs.result.resolve_checked.Goals as goal

pub returns-in_err-day : goal.returns-in_err-day
unfolding rule_of
returns-in_err-day g c = record { comes = grind (arith, asking) }

pub returns : goal.returns
unfolding rule_of
returns g c = record { comes = grind (arith, asking) }

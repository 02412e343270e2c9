use Rattle.std.proofs.Common.{arith}
use Rattle.oracle_core.proofs.Inquiring.{asking}
use Rattle.line_core.proofs.result.show_value.Goals as goal

pub returns-in_err-value : goal.returns-in_err-value
returns-in_err-value g c = record { comes = grind (arith, asking) }

pub returns : goal.returns
returns g c = record { comes = grind (arith, asking) }

use Rattle.std.proofs.Common.{arith}
use Rattle.oracle_core.proofs.Inquiring.{asking}
use Rattle.line_core.proofs.result.show_date.Goals as goal

pub returns-in_err-fields : goal.returns-in_err-fields
returns-in_err-fields g c = record { comes = grind (arith, asking) }

pub returns : goal.returns
returns g c = record { comes = grind (arith, asking) }

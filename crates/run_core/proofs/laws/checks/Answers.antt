use Rattle.run_core.proofs.OneCheck.{one_check}
use Rattle.run_core.proofs.laws.checks.Goals as goal

pub returns : goal.returns
returns c = record { one_text = one_check }

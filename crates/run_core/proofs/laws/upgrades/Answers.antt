use Rattle.run_core.proofs.OneUpgrade.{one_upgrade}
use Rattle.run_core.proofs.laws.upgrades.Goals as goal

pub returns : goal.returns
returns c = record { one_text = one_upgrade }

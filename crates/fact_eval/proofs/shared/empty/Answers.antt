use Rattle.fact_eval.proofs.Sharing.{none}
use Rattle.fact_eval.proofs.shared.empty.Goals as goal

pub new-requires : goal.new-requires
new-requires c = none

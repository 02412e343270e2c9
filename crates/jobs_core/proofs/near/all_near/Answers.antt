use Rattle.std.proofs.Common.{arith}
use Rattle.std.proofs.lemmas.Grind.{common_steps}
use Rattle.std.proofs.lemmas.List.Elements.{All-push}
use Rattle.jobs_core.specs.Near.{IsNear}
use Rattle.jobs_core.proofs.near.all_near.Goals as goal

pub loop-pair-preserved : goal.loop-pair-preserved
loop-pair-preserved c = (
  grind (arith, common_steps),
  rw c.in_ok-push.ensures.items (All-push (IsNear c.args.first) _ _ c.loop-pair.invariant.1 c.in-Some.ensures.near),
)

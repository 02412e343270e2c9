use Rattle.std.proofs.Common.{arith}
use Rattle.std.proofs.lemmas.Grind.{common_steps}
use Rattle.std.proofs.lemmas.List.Elements.{All-push}
use Rattle.jobs_core.specs.Outcomes.{CanResolve}
use Rattle.conversion.proofs.rows.checked_rows.Goals as goal

pub loop-request-preserved : goal.loop-request-preserved
loop-request-preserved c = (
  grind (arith, common_steps),
  rw c.in_ok-push.ensures.items
      (All-push CanResolve _ _ c.loop-request.invariant.1 c.checked_row.ensures.resolvable),
)

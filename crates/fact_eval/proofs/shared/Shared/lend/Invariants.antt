use Rattle.std.proofs.Common.{◌≡◌}
use Rattle.fact_eval.proofs.shared.Shared.lend.Given as goal

abbrev pub invariant-loop-asked : goal.invariant-loop-asked
invariant-loop-asked l = l.trail.count ≡ l.initial.trail.count

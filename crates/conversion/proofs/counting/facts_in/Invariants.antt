use Rattle.std.proofs.Common.{◌≡◌, [], drop, map}
use Rattle.jobs_core.specs.Outcomes.{line_outcome}
use Rattle.conversion.specs.Counting.{seen_after_all}
use Rattle.conversion.proofs.counting.facts_in.Given as goal

-- with those of the other lines all are there
abbrev pub invariant-loop-outcome : goal.invariant-loop-outcome
invariant-loop-outcome l = seen_after_all l.seen (map line_outcome (drop l.outcome-index l.outcomes)) ≡ seen_after_all
    [] (map line_outcome l.outcomes)

use Rattle.cert_check.proofs.Comparing.{IsSameTo}
use Rattle.cert_check.proofs.compare.first_difference.Given as goal

-- the facts so far are the same
abbrev pub invariant-loop-index : goal.invariant-loop-index
invariant-loop-index l = IsSameTo l.index l.asked l.listed

use Rattle.std.proofs.Common.{◌≡◌, drop}
use Rattle.cert_check.specs.Verdicts.{first_unanswered}
use Rattle.cert_check.proofs.listed.first_reason.Given as goal

-- the first reason is that of the numbers that are left
abbrev pub invariant-loop-number : goal.invariant-loop-number
invariant-loop-number l = first_unanswered l.facts l.answers (drop l.number-index l.numbers) ≡ first_unanswered l.facts
    l.answers l.numbers

use Rattle.std.proofs.Common.{take}
use Rattle.cert_check.specs.Verdicts.{AreRightAnswers}
use Rattle.cert_check.proofs.answers.answers_for.Given as goal

-- each fact so far has a right answer
abbrev pub invariant-loop-fact : goal.invariant-loop-fact
invariant-loop-fact g l = AreRightAnswers (take l.fact-index l.facts) l.answers

use Rattle.std.proofs.Common.{◌≡◌, take}
use Rattle.jobs_core.proofs.maps.listed.Given as goal

-- the answers so far
abbrev pub invariant-loop-answer : goal.invariant-loop-answer
invariant-loop-answer l = l.answers ≡ take l.answer-index l.all

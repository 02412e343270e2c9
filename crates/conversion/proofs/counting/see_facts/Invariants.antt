use Rattle.std.proofs.Common.{◌≡◌, drop}
use Rattle.book_model.specs.lines.Text.{with_facts}
use Rattle.jobs_core.specs.LineFacts.{pairs_in}
use Rattle.conversion.proofs.counting.see_facts.Given as goal

-- with the other facts all are there
abbrev pub invariant-loop-index : goal.invariant-loop-index
invariant-loop-index l = with_facts l.seen (drop l.index (pairs_in l.facts)) ≡ with_facts l.fn.seen (pairs_in l.facts)

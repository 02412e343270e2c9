use Rattle.std.proofs.Common.{◌≡◌, ◌++◌, drop}
use Rattle.book_model.specs.lines.Text.{with_facts, numbers_of, new_facts_text}
use Rattle.jobs_core.specs.LineFacts.{pairs_in}
use Rattle.conversion.proofs.page.Page.put_facts.Given as goal

-- what the other facts add makes the whole
abbrev pub invariant-loop-index : goal.invariant-loop-index
invariant-loop-index l = record {
  seen : with_facts l.self.seen (drop l.index (pairs_in l.facts)) ≡ with_facts l.fn.self.seen (pairs_in l.facts);
  numbers : l.self.numbers ++ numbers_of l.self.seen (drop l.index (pairs_in l.facts)) ≡ numbers_of l.fn.self.seen
      (pairs_in l.facts);
  text : l.self.pending.bytes.items ++ new_facts_text l.self.seen (drop l.index (pairs_in l.facts))
      ≡ l.fn.self.pending.bytes.items ++ new_facts_text l.fn.self.seen (pairs_in l.facts);
}

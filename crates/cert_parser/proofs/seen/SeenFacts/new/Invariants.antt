use Rattle.std.proofs.Common.{◌≡◌, false, length}
use Rattle.book_model.specs.declared.fact.Fact.{Fact}
use Rattle.cert_parser.specs.Seen.{has_fact}
use Rattle.cert_parser.proofs.seen.SeenFacts.new.Given as goal

-- so many rows, and no day in any
abbrev pub invariant-loop : goal.invariant-loop
invariant-loop l = record {
  none : (f : Fact) → has_fact l.days.items f ≡ false;
  rows : length l.days.items ≡ l.counter;
}

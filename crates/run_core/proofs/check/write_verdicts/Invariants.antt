use Rattle.std.proofs.Common.{◌≡◌, ◌+◌, ◌≤◌, ◌++◌, length, filter}
use Rattle.byte_streams.specs.Stream.{Wrote}
use Rattle.run_core.specs.Checking.{verdicts_after, counts_of, verdicts_of, verdicts_text, is_yes, is_no, is_skip}
use Rattle.run_core.proofs.CheckLemmas.{verdicts_from}
use Rattle.run_core.proofs.check.write_verdicts.Given as goal

-- what waits, the verdicts that are left and the counts are all that isn't written; and the counts so far, with those
-- of the verdicts that are left
abbrev pub invariant-loop-index : goal.invariant-loop-index
invariant-loop-index g l = record {
  wrote : Wrote (g.K.Sink.written l.fn.sink) (g.K.Sink.written l.sink) (verdicts_text (verdicts_of l.file l.answers))
      (l.pending.bytes.items ++ (verdicts_after l.index (verdicts_from l.file l.answers l.index) ++ counts_of
      (verdicts_of l.file l.answers)));
  yes : l.counts.yes + length (filter is_yes (verdicts_from l.file l.answers l.index)) ≡ length
      (filter is_yes (verdicts_of l.file l.answers));
  no : l.counts.no + length (filter is_no (verdicts_from l.file l.answers l.index)) ≡ length
      (filter is_no (verdicts_of l.file l.answers));
  skip : l.counts.skip + length (filter is_skip (verdicts_from l.file l.answers l.index)) ≡ length
      (filter is_skip (verdicts_of l.file l.answers));
  few_yes : l.counts.yes ≤ l.index;
  few_no : l.counts.no ≤ l.index;
  few_skip : l.counts.skip ≤ l.index;
  later : g.K.Sink.faults l.fn.sink ≤ g.K.Sink.faults l.sink;
}

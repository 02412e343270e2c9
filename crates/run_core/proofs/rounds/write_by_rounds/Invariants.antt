use Rattle.std.proofs.Common.{◌≡◌, ◌+◌, ◌-◌, ◌≤◌, ◌++◌, length, filter}
use Rattle.byte_streams.specs.Stream.{Wrote}
use Rattle.run_core.specs.Checking.{verdicts_after, counts_of, verdicts_of, verdicts_text, is_yes, is_no, is_skip}
use Rattle.run_core.proofs.CheckLemmas.{verdicts_from}
use Rattle.run_core.proofs.rounds.write_by_rounds.Given as goal

-- what waits, the verdicts of the rounds that are left and the counts are all that isn't written; and the counts so
-- far, with those of the verdicts that are left
abbrev pub invariant-loop-first : goal.invariant-loop-first
invariant-loop-first g l = record {
  wrote : Wrote (g.K.Sink.written l.fn.sink) (g.K.Sink.written l.sink) (verdicts_text (verdicts_of l.file l.answers))
      (l.pending.bytes.items ++ (verdicts_after l.first (verdicts_from l.file l.answers l.first) ++ counts_of
      (verdicts_of l.file l.answers)));
  yes : l.counts.yes + length (filter is_yes (verdicts_from l.file l.answers l.first)) ≡ length
      (filter is_yes (verdicts_of l.file l.answers));
  no : l.counts.no + length (filter is_no (verdicts_from l.file l.answers l.first)) ≡ length
      (filter is_no (verdicts_of l.file l.answers));
  skip : l.counts.skip + length (filter is_skip (verdicts_from l.file l.answers l.first)) ≡ length
      (filter is_skip (verdicts_of l.file l.answers));
  few_yes : l.counts.yes ≤ l.first;
  few_no : l.counts.no ≤ l.first;
  few_skip : l.counts.skip ≤ l.first;
  within : l.first ≤ length l.file.lines;
  later : g.K.Sink.faults l.fn.sink ≤ g.K.Sink.faults l.sink;
}

abbrev pub decreases-loop-first : goal.decreases-loop-first
decreases-loop-first g l = length l.file.lines - l.first

use Rattle.std.proofs.Common.{◌≡◌, ◌+◌, ◌≤◌, ◌++◌, length, filter, drop}
use Rattle.byte_streams.specs.Stream.{Wrote}
use Rattle.run_core.specs.Checking.{verdicts_after, is_yes, is_no, is_skip}
use Rattle.run_core.proofs.check.put_verdicts.Given as goal

-- what waits and the verdicts that are left are all that isn't written; and the counts so far, with those of the
-- verdicts that are left
abbrev pub invariant-loop-index : goal.invariant-loop-index
invariant-loop-index g l = record {
  wrote : Wrote (g.K.Sink.written l.fn.sink) (g.K.Sink.written l.sink)
      (l.fn.pending.bytes.items ++ verdicts_after l.count l.verdicts)
      (l.pending.bytes.items ++ verdicts_after (l.count + l.index) (drop l.index l.verdicts));
  yes : l.counts.yes + length (filter is_yes (drop l.index l.verdicts)) ≡ l.fn.counts.yes + length
      (filter is_yes l.verdicts);
  no : l.counts.no + length (filter is_no (drop l.index l.verdicts)) ≡ l.fn.counts.no + length
      (filter is_no l.verdicts);
  skip : l.counts.skip + length (filter is_skip (drop l.index l.verdicts)) ≡ l.fn.counts.skip + length
      (filter is_skip l.verdicts);
  few_yes : l.counts.yes ≤ l.count + l.index;
  few_no : l.counts.no ≤ l.count + l.index;
  few_skip : l.counts.skip ≤ l.count + l.index;
  later : g.K.Sink.faults l.fn.sink ≤ g.K.Sink.faults l.sink;
}

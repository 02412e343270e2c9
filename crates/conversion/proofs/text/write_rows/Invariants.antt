use Rattle.std.proofs.Common.{◌≤◌, ◌++◌, [], drop, map}
use Rattle.book_model.specs.lines.Text.{text_from}
use Rattle.byte_streams.specs.Stream.{Wrote}
use Rattle.jobs_core.specs.Outcomes.{line_outcome}
use Rattle.conversion.specs.Echoes.{echoed_lines}
use Rattle.conversion.proofs.text.write_rows.Given as goal

abbrev pub invariant-loop-index : goal.invariant-loop-index
invariant-loop-index g l = record {
  wrote : Wrote (g.K.Sink.written l.fn.sink) (g.K.Sink.written l.sink)
      (l.fn.page.pending.bytes.items ++ text_from [] 0 (echoed_lines l.echoes) (map line_outcome l.outcomes))
      (l.page.pending.bytes.items ++ text_from l.page.seen l.index (drop l.index (echoed_lines l.echoes))
      (map line_outcome (drop l.index l.outcomes)));
  later : g.K.Sink.faults l.fn.sink ≤ g.K.Sink.faults l.sink;
}

use Rattle.std.proofs.Common.{◌≤◌}
use Rattle.answered_lines.proofs.PieceLemmas.{IsReading}
use Rattle.answered_lines.proofs.lines.answer_lines.Given as goal

-- what was read is answered, line by line
abbrev pub invariant-reads : goal.invariant-reads
invariant-reads g l = record {
  reading : IsReading (g.S.Source.left l.fn.source) (g.S.Source.left l.source) (g.K.Sink.written l.fn.sink)
      (g.K.Sink.written l.sink) l.begun;
  source_later : g.S.Source.faults l.fn.source ≤ g.S.Source.faults l.source;
  sink_later : g.K.Sink.faults l.fn.sink ≤ g.K.Sink.faults l.sink;
}

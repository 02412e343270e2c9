use Rattle.std.proofs.Common.{◌≤◌, drop}
use Rattle.std.specs.List.{flat_map}
use Rattle.book_model.specs.lines.Text.{dash_text}
use Rattle.byte_streams.specs.Stream.{Wrote}
use Rattle.cert_text.proofs.result.write_others.Given as goal

abbrev pub invariant-loop-value : goal.invariant-loop-value
invariant-loop-value g l = record {
  wrote : Wrote (g.K.Sink.written l.initial.sink) (g.K.Sink.written l.sink) (flat_map dash_text l.values)
      (flat_map dash_text (drop l.value-index l.values));
  later : g.K.Sink.faults l.initial.sink ≤ g.K.Sink.faults l.sink;
}

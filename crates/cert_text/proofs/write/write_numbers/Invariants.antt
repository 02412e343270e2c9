use Rattle.std.proofs.Common.{◌≤◌, drop}
use Rattle.std.specs.List.{flat_map}
use Rattle.byte_streams.specs.Stream.{Wrote}
use Rattle.book_model.specs.lines.Text.{number_text}
use Rattle.cert_text.proofs.write.write_numbers.Given as goal

abbrev pub invariant-loop-number : goal.invariant-loop-number
invariant-loop-number g l = record {
  wrote : Wrote (g.K.Sink.written l.initial.sink) (g.K.Sink.written l.sink) (flat_map number_text l.numbers)
      (flat_map number_text (drop l.number-index l.numbers));
  later : g.K.Sink.faults l.initial.sink ≤ g.K.Sink.faults l.sink;
}

use Rattle.std.proofs.Common.{◌≤◌, ◌+◌, drop}
use Rattle.byte_streams.specs.Stream.{Wrote}
use Rattle.cert_text.specs.Text.{fact_texts}
use Rattle.cert_text.proofs.write.write_facts.Given as goal

abbrev pub invariant-loop-index : goal.invariant-loop-index
invariant-loop-index g l = record {
  wrote : Wrote (g.K.Sink.written l.initial.sink) (g.K.Sink.written l.sink) (fact_texts l.first l.facts)
      (fact_texts (l.first + l.index) (drop l.index l.facts));
  later : g.K.Sink.faults l.initial.sink ≤ g.K.Sink.faults l.sink;
}

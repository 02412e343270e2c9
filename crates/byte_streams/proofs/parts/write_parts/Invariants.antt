use Rattle.std.proofs.Common.{◌≤◌, drop}
use Rattle.std.specs.List.{flat_map}
use Rattle.byte_streams.specs.Stream.{Wrote}
use Rattle.byte_streams.proofs.parts.write_parts.Given as goal

abbrev pub invariant-loop-part : goal.invariant-loop-part
invariant-loop-part g l = record {
  wrote : Wrote (g.K.Sink.written l.initial.sink) (g.K.Sink.written l.sink) (flat_map (λ part. part.now) l.parts)
      (flat_map (λ part. part.now) (drop l.part-index l.parts));
  later : g.K.Sink.faults l.initial.sink ≤ g.K.Sink.faults l.sink;
}

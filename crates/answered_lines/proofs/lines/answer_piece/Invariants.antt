use Rattle.std.proofs.Common.{◌≡◌, ◌≤◌, take}
use Rattle.answered_lines.specs.Lines.{kept_lines, kept_prefix, plain_lines}
use Rattle.answered_lines.specs.Answers.{AnswersAll}
use Rattle.answered_lines.proofs.lines.answer_piece.Given as goal

-- the lines that end in the bytes so far are answered
abbrev pub invariant-loop-byte : goal.invariant-loop-byte
invariant-loop-byte g l = record {
  answered : AnswersAll (g.K.Sink.written l.fn.sink) (g.K.Sink.written l.sink)
      (plain_lines (kept_lines l.fn.begun (take l.byte-index l.piece)));
  begun : l.begun ≡ kept_prefix l.fn.begun (take l.byte-index l.piece);
  later : g.K.Sink.faults l.fn.sink ≤ g.K.Sink.faults l.sink;
}

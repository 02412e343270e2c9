use Rattle.std.proofs.Common.{arith}
use Rattle.answered_lines.proofs.PieceLemmas.{consumes_kept, consumes_zero, reading_none, reading_on, reading_failed}
use Rattle.answered_lines.proofs.PieceLemmas.{reading_ended, reading_stopped, last_cut, piece_cut}
use Rattle.answered_lines.proofs.lines.answer_lines.Goals as goal

pub reads-init : goal.reads-init
reads-init g c = record {
  reading = rw c.new-begun.ensures.none (reading_none _ _);
  source_later = omega arith;
  sink_later = omega arith;
}

pub returns-in-Err-clause-read_fault : goal.returns-in-Err-clause-read_fault
returns-in-Err-clause-read_fault g c = λ _. reading_failed _ _ _ _ _ _ c.reads.invariant.reading
    (consumes_kept _ _ c.in-Err.ensures.bytes)

pub returns-then-count-eq0-clause-done : goal.returns-then-count-eq0-clause-done
returns-then-count-eq0-clause-done g c e =
    reading_ended _ _ _ _ _ _ _ c.reads.invariant.reading
    (consumes_zero _ _ _ _ c.if-count-eq0.true c.in-Ok.ensures.bytes.0)
    (c.in-Ok.ensures.bytes.1 c.if-count-eq0.true (omega arith)) (c.end_lines.ensures.done e)

pub returns-then-count-eq0-clause-write_fault : goal.returns-then-count-eq0-clause-write_fault
returns-then-count-eq0-clause-write_fault g c e =
    last_cut _ _ _ _ _ _ _ c.reads.invariant.reading (consumes_zero _ _ _ _ c.if-count-eq0.true c.in-Ok.ensures.bytes.0)
    (c.end_lines.ensures.cut (rw e tt))

pub returns-then-count-eq0-clause-memory : goal.returns-then-count-eq0-clause-memory
returns-then-count-eq0-clause-memory g c e =
    last_cut _ _ _ _ _ _ _ c.reads.invariant.reading (consumes_zero _ _ _ _ c.if-count-eq0.true c.in-Ok.ensures.bytes.0)
    (c.end_lines.ensures.cut (rw e tt))

pub returns-in-Err-answer_piece-clause-write_fault : goal.returns-in-Err-answer_piece-clause-write_fault
returns-in-Err-answer_piece-clause-write_fault g c = λ _. piece_cut _ _ _ _ _ _ _ _ c.reads.invariant.reading
    c.in-Ok.ensures.bytes.0 c.in-Err-answer_piece.ensures.err

pub returns-in-Err-answer_piece-clause-memory : goal.returns-in-Err-answer_piece-clause-memory
returns-in-Err-answer_piece-clause-memory g c = λ _. piece_cut _ _ _ _ _ _ _ _ c.reads.invariant.reading
    c.in-Ok.ensures.bytes.0 c.in-Err-answer_piece.ensures.err

pub reads-preserved : goal.reads-preserved
reads-preserved g c = record {
  reading = reading_on _ _ _ _ _ _ _ _ _ c.reads.invariant.reading c.in-Ok.ensures.bytes.0
      c.in-Ok-answer_piece.ensures.ok c.in-Ok-answer_piece.ensures.begun;
  source_later = omega (arith, c.reads.invariant.source_later, c.in-Ok.ensures.cause.later);
  sink_later = omega (arith, c.reads.invariant.sink_later, c.in-Ok-answer_piece.ensures.later);
}

pub returns-clause-memory : goal.returns-clause-memory
returns-clause-memory g c = λ _. reading_stopped _ _ _ _ _ c.reads.invariant.reading

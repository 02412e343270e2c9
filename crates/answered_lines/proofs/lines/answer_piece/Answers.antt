use Rattle.std.proofs.Common.{arith, refl}
use Rattle.byte_streams.proofs.Flow.{at_any_err}
use Rattle.answered_lines.proofs.AnswerLemmas.{none_answered}
use Rattle.answered_lines.proofs.PieceLemmas.{byte_on, prefix_on, byte_cut, whole_piece, whole_prefix}
use Rattle.answered_lines.proofs.lines.answer_piece.Goals as goal

pub loop-byte-init : goal.loop-byte-init
loop-byte-init g c = record { answered = none_answered _; begun = refl; later = omega arith }

pub loop-byte-preserved : goal.loop-byte-preserved
loop-byte-preserved g c = record {
  answered = byte_on _ _ _ c.args.begun.now _ c.args.piece.now c.loop-byte.byte-index _ 0 c.loop-byte-test.true refl
      c.loop-byte.invariant.begun
      c.loop-byte.invariant.answered c.in_ok-answer_byte.ensures.ok;
  begun = prefix_on c.args.begun.now _ _ c.args.piece.now c.loop-byte.byte-index _ 0 c.loop-byte-test.true refl
      c.loop-byte.invariant.begun
      c.in_ok-answer_byte.ensures.begun;
  later = omega (arith, c.loop-byte.invariant.later, c.in_ok-answer_byte.ensures.later);
}

pub returns-in_err-answer_byte-clause-err : goal.returns-in_err-answer_byte-clause-err
returns-in_err-answer_byte-clause-err g c =
    at_any_err _ (byte_cut _ _ _ c.args.begun.now _ c.args.piece.now c.loop-byte.byte-index _ 0 c.loop-byte-test.true
    refl c.loop-byte.invariant.begun
    c.loop-byte.invariant.answered c.in_err-answer_byte.ensures.err)

pub returns-clause-ok : goal.returns-clause-ok
returns-clause-ok g c = whole_piece _ _ c.args.begun.now c.loop-byte.begun c.args.piece.now c.loop-byte.byte-index
    (omega arith) c.loop-byte.invariant.answered

pub returns-clause-begun : goal.returns-clause-begun
returns-clause-begun g c = whole_prefix c.args.begun.now _ c.args.piece.now c.loop-byte.byte-index (omega arith)
    c.loop-byte.invariant.begun

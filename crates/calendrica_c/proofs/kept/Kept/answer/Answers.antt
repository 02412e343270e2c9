use Rattle.answered_lines.specs.Below.{answer_text}
use Rattle.calendrica_c.proofs.HandingLemmas.{answer_handed}
use Rattle.calendrica_c.proofs.kept.Kept.answer.Goals as goal

pub returns-in-Ok : goal.returns-in-Ok
returns-in-Ok c = record {
  answered = answer_handed (answer_text c.args.line.now) _ c.answer.new.sink.bytes.items _ _ _ c.in-Ok.is_result _
      (rw c.new-text.ensures.bytes at c.in-Ok.ensures.performs.ok)
      (rw (c.of.ensures.handed, c.bytes.ensures.bytes) at c.hand_as.ensures.handed);
}

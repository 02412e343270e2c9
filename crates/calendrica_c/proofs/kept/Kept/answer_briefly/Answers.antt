use Rattle.answered_lines.specs.Below.{brief_text}
use Rattle.calendrica_c.proofs.HandingLemmas.{answer_handed}
use Rattle.calendrica_c.proofs.kept.Kept.answer_briefly.Goals as goal

pub returns-in-Ok : goal.returns-in-Ok
returns-in-Ok c = record {
  answered = answer_handed brief_text _ c.answer_briefly.new.sink.bytes.items _ _ _ c.in-Ok.is_result _
      (rw c.new-text.ensures.bytes at c.in-Ok.ensures.performs.ok)
      (rw (c.of.ensures.handed, c.bytes.ensures.bytes) at c.hand_as.ensures.handed);
}

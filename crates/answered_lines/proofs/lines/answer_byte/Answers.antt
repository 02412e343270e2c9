use Rattle.byte_streams.proofs.Flow.{at_any_err}
use Rattle.answered_lines.proofs.AnswerLemmas.{cut_none}
use Rattle.answered_lines.proofs.lines.answer_byte.Goals as goal

pub returns-in_err-put-clause-err : goal.returns-in_err-put-clause-err
returns-in_err-put-clause-err g c = at_any_err _ (cut_none _ _)

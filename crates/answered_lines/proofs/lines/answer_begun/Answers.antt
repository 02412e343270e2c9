use Rattle.byte_streams.proofs.Flow.{at_any_err}
use Rattle.answered_lines.proofs.AnswerLemmas.{one_answered, one_stopped, stop_left}
use Rattle.answered_lines.proofs.lines.answer_begun.Goals as goal

pub returns-in_err-answer-clause-err : goal.returns-in_err-answer-clause-err
returns-in_err-answer-clause-err g c =
    let cut = one_stopped _ _ c.line.result.now (stop_left _ c.in_err-answer.ensures.performs) in
    at_any_err _ (rw c.line.ensures.line at cut)

pub returns-clause-ok : goal.returns-clause-ok
returns-clause-ok g c = let all = one_answered _ _ c.line.result.now _ c.in_ok-answer.ensures.performs.ok in
    rw c.line.ensures.line at all

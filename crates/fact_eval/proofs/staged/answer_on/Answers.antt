use Rattle.fact_eval.proofs.Rightness.{right_result, close_answer}
use Rattle.fact_eval.proofs.staged.answer_on.Goals as goal

pub returns : goal.returns
returns g c = record {
  right = λ k.
      rw c.answer.ensures
      (right_result c.args.fact c.evaluate_by.result c.evaluate_by.new.trail.count
      (λ w d. rw c.requires.fresh at (c.evaluate_by.ensures.leads w d))
      c.evaluate_by.ensures.value (c.evaluate_by.ensures.early c.requires.fresh c.requires.least
      c.requires.most)
      (rw c.answer.ensures at k));
  close = λ b. rw c.answer.ensures (close_answer c.evaluate_by.result (c.evaluate_by.ensures.close b));
}

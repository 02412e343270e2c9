use Rattle.std.proofs.lemmas.Result.{IfOk-weaker}
use Rattle.run_core.proofs.CheckLemmas.{right_answers}
use Rattle.run_core.proofs.check.answers_of.Goals as goal

pub returns : goal.returns
returns g c =
    let facts = c.in_ok-facts.ensures.facts in
    let pairs = c.entries.ensures.entries in
    let same = c.deref.ensures.value in
    record {
      right = IfOk-weaker c.map_facts.result _ _ (λ answers h. right_answers c.args.file.now.facts answers
          (rw (same, facts, pairs) at h))
          c.map_facts.ensures.right;
    }

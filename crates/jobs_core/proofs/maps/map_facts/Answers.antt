use Rattle.std.proofs.Common.{◌≡◌, ◌∙◌}
use Rattle.std.proofs.lemmas.Result.{IfOk-weaker}
use Rattle.oracle_core.specs.Answers.{IsRightAnswer}
use Rattle.jobs_core.proofs.PieceLemmas.{covers_zip}
use Rattle.jobs_core.proofs.maps.map_facts.Goals as goal

pub returns : goal.returns
returns g c =
    let answers = c.in_ok-answers.answers.items in
    let right = covers_zip IsRightAnswer _ c.args.facts.now answers (λ i d y p. p d) c.in_ok-answers.ensures.covers in
    record {
      right = IfOk-weaker c.listed.result _ _ (λ all same. let whole : all ≡ answers = same ∙ c.deref.ensures.value in
          rw whole right) c.listed.ensures.answers;
    }

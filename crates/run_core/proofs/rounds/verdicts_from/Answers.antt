use Rattle.std.proofs.lemmas.Result.{IfOk-weaker}
use Rattle.run_core.proofs.rounds.verdicts_from.Goals as goal

pub returns : goal.returns
returns g c = record {
  verdicts = IfOk-weaker c.map_places.result _ _ (λ all h k d within. h.each k d within) c.map_places.ensures.covers;
  len = IfOk-weaker c.map_places.result _ _ (λ all h. h.len) c.map_places.ensures.covers;
}

use Rattle.std.proofs.lemmas.Result.{IfOk-weaker}
use Rattle.jobs_core.specs.Outcomes.{line_outcome}
use Rattle.jobs_core.proofs.PieceLemmas.{covers_zip}
use Rattle.conversion.specs.Renewing.{Renews}
use Rattle.conversion.proofs.RenewLemmas.{renewed_all}
use Rattle.conversion.proofs.renewing.renewed_lines.Goals as goal

pub returns : goal.returns
returns g c = record {
  renews = IfOk-weaker c.map_places.result _ _
      (λ all h. renewed_all c.args.lines.now all.items
      (covers_zip (λ l o. Renews l (line_outcome o)) _ c.args.lines.now all.items (λ i d y p. p d) h))
      c.map_places.ensures.covers;
}

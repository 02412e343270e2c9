use Rattle.std.proofs.lemmas.Result.{IfOk-weaker}
use Rattle.book_model.specs.declared.version.TheConstants.{WRITTEN}
use Rattle.book_model.specs.lines.Outcomes.{IsRightForRow}
use Rattle.jobs_core.specs.Outcomes.{line_outcome}
use Rattle.jobs_core.proofs.PieceLemmas.{covers_zip}
use Rattle.jobs_core.proofs.maps.map_lines.Goals as goal

pub returns : goal.returns
returns g c = record {
  right = IfOk-weaker c.map_places.result _ _
      (λ all h. covers_zip (λ row o. IsRightForRow WRITTEN row (line_outcome o)) _ c.args.rows.now all.items
      (λ i d y p. p d) h) c.map_places.ensures.covers;
}

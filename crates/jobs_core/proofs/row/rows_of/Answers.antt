use Rattle.std.proofs.lemmas.Result.{IfOk-weaker}
use Rattle.jobs_core.specs.Outcomes.{IsRowOf}
use Rattle.jobs_core.proofs.PieceLemmas.{covers_zip}
use Rattle.jobs_core.proofs.RowLemmas.{rows_mapped, rows_resolvable}
use Rattle.jobs_core.proofs.row.rows_of.Goals as goal

pub returns : goal.returns
returns g c = record {
  rows = IfOk-weaker c.map_places.result _ _
      (λ all h. rows_mapped (λ line. line.now) c.args.lines.now all.items
      (covers_zip (λ line row. IsRowOf line.now row) _ c.args.lines.now all.items (λ i d y p. p d) h))
      c.map_places.ensures.covers;
  resolvable = IfOk-weaker c.map_places.result _ _
      (λ all h. rows_resolvable (λ line. line.now) c.args.lines.now all.items
      (covers_zip (λ line row. IsRowOf line.now row) _ c.args.lines.now all.items (λ i d y p. p d) h))
      c.map_places.ensures.covers;
}

use Rattle.std.proofs.lemmas.Result.{IfOk-weaker}
use Rattle.conversion.specs.Rows.{lines_in}
use Rattle.conversion.proofs.RightLemmas.{right_lines}
use Rattle.conversion.proofs.outcome.outcomes_of.Goals as goal

pub returns : goal.returns
returns g c =
    let rows = c.in_ok-asked.ensures.rows in
    let same = c.deref.ensures.value in
    record {
      right = IfOk-weaker c.map_lines.result _ _ (λ all h. right_lines (lines_in c.args.rows.now) all.items
          (rw (same, rows) at h))
          c.map_lines.ensures.right;
    }

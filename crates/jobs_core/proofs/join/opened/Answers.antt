use Rattle.std.proofs.Common.{◌≡◌, ◌∙◌, refl, sym, ◌++◌, ◌∷◌, []}
use Rattle.std.specs.Prelude.{IsOk}
use Rattle.std.specs.Vec.Iter.{into_iter_items}
use Rattle.jobs_core.specs.Pieces.{results_in}
use Rattle.jobs_core.proofs.Joining.{opened_on, opened_all, one_less}
use Rattle.jobs_core.proofs.join.opened.Goals as goal

pub loop-piece-preserved : goal.loop-piece-preserved
loop-piece-preserved g c =
    let at = c.loop-piece in
    let steps = c.in-Some.ensures.steps in
    let grown : c.push.new.self.items ≡ at.opened.items ++ c.into_iter.result ∷ [] = c.in_ok-push.ensures.items in (
      tt,
      tt,
      one_less (into_iter_items at.piece-iterator) (into_iter_items c.next.new.self) c.in-Some.piece _ _ steps.0 steps.1
          at.invariant.2,
      rw grown (opened_on into_iter_items results_in IsOk _ at.opened.items c.in-Some.piece _ c.into_iter.result
          (rw c.in_ok-piece.was refl)
          (rw c.in_ok-piece.was c.into_iter.ensures.rest) (rw steps.0 at at.invariant.3)),
    )

pub returns : goal.returns
returns g c =
    let at = c.loop-piece in
    let all = opened_all into_iter_items results_in IsOk c.args.pieces.items at.opened.items
    (into_iter_items at.piece-iterator)
    (sym at.invariant.2 ∙ c.in-None.ensures.steps.0) at.invariant.3 in
    record {
      len = all;
      done = λ p e lt. at.invariant.3.done p e (rw all lt);
      each = λ p d e lt. at.invariant.3.each p d
          e (rw all lt);
    }

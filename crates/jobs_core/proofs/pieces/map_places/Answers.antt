use Rattle.std.proofs.Common.{◌≡◌, ℕ, arith, Ok}
use Rattle.std.proofs.lemmas.Result.{IfOk-weaker}
use Rattle.jobs_core.proofs.PieceLemmas.{joined_covers, only_covers}
use Rattle.jobs_core.proofs.pieces.map_places.Goals as goal

pub returns-then-jobs-eq1 : goal.returns-then-jobs-eq1
returns-then-jobs-eq1 g c =
    let one : c.args.jobs ≡ 1 = c.if-jobs-eq1.true in
    let whole = c.only_of.result in
    let covered = c.in_ok-pieces.ensures.each 0 whole (omega arith) in
    record {
      covers = IfOk-weaker whole _ _ (λ all h. only_covers (λ (i : ℕ) x. goal.F-post g c.args.f.now i (Ok x))
          c.args.count all.items h)
          (rw (c.only_of.ensures.only whole, one) at covered);
    }

pub returns-else-jobs-eq1 : goal.returns-else-jobs-eq1
returns-else-jobs-eq1 g c = record {
  covers = IfOk-weaker c.join_pieces.result _ _
      (λ all h. joined_covers (λ (i : ℕ) x. goal.F-post g c.args.f.now i (Ok x)) c.args.count c.args.jobs
      c.in_ok-pieces.pieces.items all.items
      c.join_pieces.result c.requires.some
      c.in_ok-pieces.ensures.each h) c.join_pieces.ensures.joined;
}

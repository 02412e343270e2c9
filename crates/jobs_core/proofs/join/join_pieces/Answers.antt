use Rattle.std.proofs.Common.{◌≡◌, ◌∙◌, ◌<◌, ◌++◌, ◌∷◌, [], length, length-append, refl, arith}
use Rattle.std.specs.Vec.Iter.{into_iter_items}
use Rattle.jobs_core.specs.Pieces.{piece_of, results_in}
use Rattle.jobs_core.proofs.Dealing.{piece_within}
use Rattle.jobs_core.proofs.Joining.{left_first, left_on, joined_on}
use Rattle.jobs_core.proofs.join.join_pieces.Goals as goal

pub loop-place-init : goal.loop-place-init
loop-place-init g c = record {
  pieces = c.in_ok-opened.ensures.len;
  left = left_first into_iter_items results_in c.args.count c.args.jobs c.args.pieces.items c.in_ok-opened.opened.items
      c.requires.some
      (λ p d e lt. c.in_ok-opened.ensures.each p d e (omega (arith, c.requires.pieces)));
  made = rw c.in_ok-all.ensures.items refl;
  joined = λ j d e lt. absurd (omega arith);
}

pub loop-place-preserved : goal.loop-place-preserved
loop-place-preserved g c =
    let at = c.loop-place in
    let n = c.args.count in
    let k = c.args.jobs in
    let new = c.next_of.new.pieces.items in
    let piece : c.piece_of-piece.result ≡ piece_of n k at.place = c.piece_of-piece.ensures.piece in
    let opened : 0 < length at.opened.items = omega (arith, at.invariant.pieces, c.requires.pieces, c.requires.some) in
    let grown : c.push.new.self.items ≡ at.all.items ++ c.in-Some.item ∷ [] = c.in_ok-push.ensures.items in
    let next = left_on into_iter_items results_in n k at.place c.args.pieces.items at.opened.items new c.in-Some.item
    c.requires.some at.invariant.left
    (λ p d other. c.next_of.ensures.others p d (λ e. other (e ∙ piece))) (λ d. rw piece at (c.in-Some.ensures.next d))
    in
    record {
      pieces = c.next_of.ensures.len ∙ at.invariant.pieces;
      left = next;
      made = rw grown (omega (arith, length-append at.all.items (c.in-Some.item ∷ []), at.invariant.made));
      joined = rw grown (joined_on into_iter_items results_in n k at.place c.args.pieces.items at.opened.items new
          at.all.items c.in-Some.item c.requires.some
          (piece_within n k at.place c.requires.some) at.invariant.made at.invariant.left
          (λ d. rw piece at (c.in-Some.ensures.next d)) opened
          at.invariant.joined);
    }

pub returns : goal.returns
returns g c =
    let at = c.loop-place in
    record {
      joined = record {
        len = omega (arith, at.invariant.made);
        done = λ p e lt. c.in_ok-opened.ensures.done p e (omega (arith, c.requires.pieces));
        each = λ i d e lt. at.invariant.joined i d e (omega arith);
      };
    }

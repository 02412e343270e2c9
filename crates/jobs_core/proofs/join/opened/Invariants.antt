use Rattle.std.proofs.Common.{◌≡◌, length}
use Rattle.std.specs.Prelude.{IsOk}
use Rattle.std.specs.Vec.Iter.{into_iter_items, into_iter_len}
use Rattle.jobs_core.specs.Pieces.{results_in}
use Rattle.jobs_core.proofs.Joining.{IsOpened}
use Rattle.jobs_core.proofs.join.opened.Given as goal

-- the chunks so far are opened, and the iterator has the others
abbrev pub invariant-loop-piece : goal.invariant-loop-piece
invariant-loop-piece g l = (goal.iterator-loop-piece g).can_next l.piece-iterator
    × (goal.iterator-loop-piece g).is_finite l.piece-iterator
    × (into_iter_len l.piece-iterator ≡ length (into_iter_items l.piece-iterator))
    × IsOpened into_iter_items results_in IsOk l.fn.pieces.items l.opened.items (into_iter_items l.piece-iterator)

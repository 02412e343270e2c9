use Rattle.std.proofs.Common.{ℕ, ◌*◌, ◌^◌, ◌≤◌, pos, neg_ℤ, ◌≤ℤ◌}
use Rattle.book_model.specs.numbers.Expressions.{Expression, World}
use Rattle.periodic_terms.specs.Multiples.{AreKnown, AreTerms}
use Rattle.periodic_terms.proofs.TermSums.{IsSum}
use Rattle.periodic_terms.proofs.term_sums.sum_at.Given as goal

abbrev pub invariant-loop-row : goal.invariant-loop-row
invariant-loop-row g l =
    ((w : World) (u : ℕ) (term : _ → Expression) (none : _) → 40 ≤ w.depth → AreKnown l.turns
    → AreTerms w u l.turns g.T.MultipleRow.row_of term l.rows none
    → IsSum w u l.turns g.T.MultipleRow.row_of term none l.rows l.row-index l.sum)
    × (neg_ℤ (pos (l.row-index * 2 ^ 119)) ≤ℤ l.sum) × (l.sum ≤ℤ pos (l.row-index * 2 ^ 119))

use Rattle.std.proofs.Common.{◌≤◌}
use Rattle.book_model.specs.numbers.Bounds.{Reach, limits_of}
use Rattle.book_model.specs.numbers.Expressions.{World}
use Rattle.book_model.specs.numbers.Relations.{Within, Narrow}
use Rattle.book_model.specs.numbers.Terms.{terms_to}
use Rattle.encl_core.proofs.sums.sum_of_terms.Given as goal

abbrev pub invariant-loop-row : goal.invariant-loop-row
invariant-loop-row g l =
    ((w : World) (a : g.T.Term.Given) (none : _) → 40 ≤ w.depth → g.T.Term.holds w a l.given
    → Within g.E.Enclosure.shown w (terms_to (g.T.Term.term_of a) none l.rows l.row-index) l.sum)
    × ((r : Reach) (a : g.T.Term.Given) (none : _) → g.T.Term.keeps r a l.given
    → Narrow g.E.Enclosure.shown (limits_of g.E.Enclosure.BITS) r
    (terms_to (g.T.Term.computed_of a) none l.rows l.row-index) l.sum)

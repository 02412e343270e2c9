use Rattle.std.proofs.Common.{◌≤◌}
use Rattle.book_model.specs.numbers.Bounds.{Reach, limits_of}
use Rattle.book_model.specs.numbers.Expressions.{World}
use Rattle.book_model.specs.numbers.Fractions.{fraction_of}
use Rattle.book_model.specs.numbers.Relations.{Within, Narrow}
use Rattle.time_scales.specs.Horner.{horner_to}
use Rattle.time_scales.proofs.polynomial.horner.Given as goal

abbrev pub invariant-loop-count : goal.invariant-loop-count
invariant-loop-count g l =
    ((w : World) → 40 ≤ w.depth → Within g.E.Enclosure.shown w (horner_to l.coefficients (fraction_of l.x) l.count)
    l.sum)
    × ((r : Reach) → Narrow g.E.Enclosure.shown (limits_of g.E.Enclosure.BITS) r
    (horner_to l.coefficients (fraction_of l.x) l.count) l.sum)

use Rattle.std.proofs.Common.{◌≡◌, ◌≤◌}
use Rattle.book_model.specs.numbers.Bounds.{Reach, limits_of}
use Rattle.book_model.specs.sky.Correction.{int_power, polynomial_to}
use Rattle.book_model.specs.numbers.Expressions.{World}
use Rattle.book_model.specs.numbers.Relations.{Within, Narrow}
use Rattle.time_scales.proofs.polynomial.at_whole.Given as goal

abbrev pub invariant-loop-coefficient : goal.invariant-loop-coefficient
invariant-loop-coefficient g l =
    ((w : World) → 40 ≤ w.depth → Within g.E.Enclosure.shown w (polynomial_to l.coefficients l.x l.coefficient-index)
    l.sum)
    × ((r : Reach) → Narrow g.E.Enclosure.shown (limits_of g.E.Enclosure.BITS) r
    (polynomial_to l.coefficients l.x l.coefficient-index) l.sum)
    × (l.power ≡ int_power l.x l.coefficient-index)

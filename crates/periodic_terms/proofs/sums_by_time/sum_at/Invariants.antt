use Rattle.std.proofs.Common.{ℕ, ◌*◌, ◌^◌, ◌≤◌, List, ℤ, pos, neg_ℤ, ◌≤ℤ◌}
use Rattle.book_model.specs.Interval.{between, ◌⊆◌}
use Rattle.book_model.specs.declared.polynomial.PeriodicTerm.{PeriodicTerm}
use Rattle.book_model.specs.numbers.Expressions.{Expression, World, value}
use Rattle.book_model.specs.numbers.Polynomials.{no_periodic_term}
use Rattle.book_model.specs.numbers.Terms.{terms_to}
use Rattle.book_model.specs.programs.Leading.{units_of_56}
use Rattle.periodic_terms.specs.Turning.{AreTurning, AreNear, turning_term_of, radius_to}
use Rattle.periodic_terms.proofs.SumsByTime.{around}
use Rattle.periodic_terms.proofs.sums_by_time.sum_at.Given as goal

abbrev pub invariant-loop-row : goal.invariant-loop-row
invariant-loop-row l =
    ((w : World) (x : Expression) (vs : List PeriodicTerm) (width : ℕ) (lo hi : ℤ) → 40 ≤ w.depth → AreTurning vs l.rows
    → AreNear l.days.count width lo hi
    → value w x ⊆ between (units_of_56 lo) (units_of_56 hi)
    → value w (terms_to (turning_term_of x) no_periodic_term vs l.row-index) ⊆ around l.sum
    (radius_to vs width l.row-index))
    × (neg_ℤ (pos (l.row-index * 2 ^ 87)) ≤ℤ l.sum) × (l.sum ≤ℤ pos (l.row-index * 2 ^ 87))

-- A quartic is the sum of its constant, its linear term and its higher terms. The definition adds its terms from the
-- constant on, and a linear model keeps the higher ones together: sums of intervals may be regrouped, each way within
-- the other, by the cases of the intervals.
use Rattle.book_model.specs.Interval.{Interval, everything, between, ◌⊆◌, sum}
use Rattle.book_model.proofs.Intervals.{within_trans}
use Rattle.book_model.proofs.Same.{plus_assoc, le_of_same, ge_of_same}
use Rattle.book_model.specs.declared.polynomial.Quartic.{Quartic}
use Rattle.book_model.specs.numbers.Expressions.{Expression, World, value, constant, add, scale}
use Rattle.book_model.specs.numbers.Fractions.{fraction_of}
use Rattle.book_model.specs.numbers.Polynomials.{quartic_of}
use Rattle.book_model.specs.numbers.Relations.{Within, Lies}
use Rattle.moon_core.specs.HigherTerms.{higher_sum_of}

-- sums of three
regrouped : (i j k : Interval) → sum (sum i j) k ⊆ sum i (sum j k)
unfolding sum
regrouped everything j k = record { endpoints = tt }
regrouped (between a b) everything k = record { endpoints = tt }
regrouped (between a b) (between c d) everything = record { endpoints = tt }
regrouped (between a b) (between c d) (between e f) =
    record { endpoints = (ge_of_same (plus_assoc a c e), le_of_same (plus_assoc b d f)) }

-- what holds the sum of the constant, the linear term and the higher terms holds the quartic
pub with_higher : {E : Type 0} (shown : E → Interval) (w : World) (p : Quartic) (x : Expression) (e : E)
    → Within shown w (add (add (constant (fraction_of p.constant)) (scale (fraction_of p.linear) x))
    (higher_sum_of p x)) e → Within shown w (quartic_of p x) e
unfolding Lies value quartic_of higher_sum_of
with_higher shown w p x e h =
    record { deep = h.deep; inside = within_trans (regrouped _ _ _) (within_trans (regrouped _ _ _) h.inside) }

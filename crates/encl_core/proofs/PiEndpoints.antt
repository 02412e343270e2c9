-- Pi lies between its neighbours in units of 2^-56. That the model's pi does at depth 40 and deeper is proved in
-- book_model; what holds the interval between the neighbours then holds pi, and their distance, one unit, is computed.
use Rattle.std.proofs.Common.{ℕ, ◌≤◌, arith}
use Rattle.std.proofs.lemmas.Int.{ints}
use Rattle.book_model.specs.Fraction.{plus}
use Rattle.book_model.specs.Interval.{Interval, between, ◌⊆◌}
use Rattle.book_model.proofs.Intervals.{within_trans}
use Rattle.book_model.specs.numbers.Bounds.{Bound, Reach, IsNarrow, bound_of, spanned_bound, pi_spans, limits_of}
use Rattle.book_model.specs.declared.tables.TheConstants.{PI_BELOW, PI_ABOVE}
use Rattle.book_model.specs.numbers.Expressions.{World, value, pi}
use Rattle.book_model.specs.programs.Leading.{units_of_56}
use Rattle.book_model.specs.numbers.Relations.{Within, Lies, Narrow, Keeps}
use Rattle.book_model.proofs.Pi.{pi_number}

abbrev pub pi_endpoints : Interval
pi_endpoints = between (units_of_56 PI_BELOW.num) (units_of_56 PI_ABOVE.num)

-- what holds what lies between its neighbours holds pi
pub within_pi : {E : Type 0} (shown : E → Interval) (w : World) (e : E) → 40 ≤ w.depth → pi_endpoints ⊆ shown e
    → Within shown w pi e
unfolding Lies value
within_pi shown w e d h = record { deep = d; inside = within_trans (pi_number w.depth (omega (arith, d))) h }

endpoints_narrow : (w : ℕ) → IsNarrow w pi_spans (pi_endpoints)
unfolding IsNarrow plus
endpoints_narrow w = record {
  ordered = record { cross = omega (arith, ints) };
  above = record { cross = omega (arith, ints) };
  below = record { cross = omega (arith, ints) };
  close = record { cross = omega (arith, ints) };
}

-- and what is hardly wider is as narrow as pi
pub narrow_pi : {E : Type 0} (shown : E → Interval) (n : ℕ) (r : Reach) (e : E)
    → ((w : ℕ) (b : Bound) → IsNarrow w b (pi_endpoints) → IsNarrow w (spanned_bound (limits_of n) b) (shown e))
    → Narrow shown (limits_of n) r pi e
unfolding Keeps bound_of
narrow_pi shown n r e h = record { kept = h r.width pi_spans (endpoints_narrow r.width) }

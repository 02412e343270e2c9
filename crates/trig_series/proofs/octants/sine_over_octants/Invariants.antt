use Rattle.std.proofs.Common.{ℕ, ◌≤◌, neg_ℤ, ℤ, pos, ◌+ℤ◌, ◌-ℤ◌, ◌*ℤ◌, ◌≤ℤ◌, ◌<ℤ◌}
use Rattle.std.specs.Int.{int_min}
use Rattle.book_model.specs.Interval.{between, ◌⊆◌}
use Rattle.book_model.specs.programs.Leading.{units_of_56}
use Rattle.book_model.specs.numbers.Octants.{octant_of_turn, sine_in as in_octant}
use Rattle.encl_core.specs.parts.TheConstants.{OCTANT, QUARTER}
use Rattle.trig_series.specs.Points.{edge_of, IsAt, IsAround, IsCrest}
use Rattle.trig_series.proofs.octants.sine_over_octants.Given as goal

abbrev pub invariant-loop-octant : goal.invariant-loop-octant
invariant-loop-octant l = record {
  begun : l.first <ℤ l.octant;
  within : l.octant ≤ℤ (l.last +ℤ pos 1);
  holds : (n : ℕ) → 40 ≤ n → (k : ℤ) → l.first ≤ℤ k → k <ℤ l.octant
      → in_octant n (units_of_56 l.lo) (units_of_56 l.hi) k ⊆ between (units_of_56 l.sine.lo) (units_of_56 l.sine.hi);
  narrow : (pos 57 *ℤ (l.sine.hi -ℤ l.sine.lo)) ≤ℤ ((int_min (l.octant *ℤ pos OCTANT) l.hi -ℤ l.lo) +ℤ pos
      513 *ℤ (l.octant -ℤ l.first));
  reached : (l.octant *ℤ pos OCTANT) ≤ℤ l.hi → IsAt (edge_of (octant_of_turn l.octant)) l.sine.lo l.sine.hi;
  small : (a : ℤ) → neg_ℤ a ≤ℤ l.lo → l.hi ≤ℤ a → a <ℤ pos OCTANT → IsAround (pos 0) a l.sine.lo l.sine.hi;
  crest : (a : ℤ) → (QUARTER -ℤ a) ≤ℤ l.lo → l.hi ≤ℤ (QUARTER +ℤ a) → a <ℤ pos OCTANT → IsCrest a l.sine.lo;
}

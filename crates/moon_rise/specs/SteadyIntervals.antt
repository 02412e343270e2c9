-- What is known of the moments of an interval over which a test has one answer.
use Rattle.std.specs.Prelude.{ℕ, ◌≤◌, Ok, Bool}
use Rattle.book_model.specs.programs.Calls.{Decides}
use Rattle.book_model.specs.programs.Programs.{Program}
use Rattle.moon_core.specs.Replays.{turn_after}
use Rattle.moon_rise.specs.declared.steady_intervals.SteadyInterval.{SteadyInterval}

-- at each moment of the interval, wherever its run begins, the test has the interval's answer, by as many tests as the
-- interval says
pub record HasOneAnswer (holds : ℕ → Program Bool) (s : SteadyInterval) : Type 0 where
  pub leads : (i : ℕ) → s.from ≤ i → i ≤ s.to → (b : ℕ) → Decides (holds i) b (turn_after s.tests b) (Ok s.so)

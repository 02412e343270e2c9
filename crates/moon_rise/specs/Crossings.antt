-- What a minute that is found says of the moments beside it.
use Rattle.std.specs.Prelude.{◌≡◌, ℕ, suc, ◌+◌, ◌*◌, ◌<◌, ◌≤◌, not, Bool, ℤ, pos, ◌*ℤ◌, ◌≤ℤ◌}
use Rattle.book_model.specs.numbers.Depth.{DEPTH}
use Rattle.book_model.specs.programs.Programs.{Program, run, outcome, valued}
use Rattle.book_model.specs.sky.Facts.{at_depth}

-- a program gives an answer at every depth from 40 on
pub record ComesToAlways {A : Type 0} (p : Program A) (a : A) : Type 0 where
  pub at_each_depth : (n : ℕ) → DEPTH ≤ n → outcome (run (at_depth n) p) ≡ valued a

-- At the two bounds of an interval of 15/16 minute it isn't so and is so, or is so and isn't. The minute lies in the
-- interval, or no more than 1/32 minute after it; 32 of these intervals are 30 minutes.
pub record HasCrossing (holds : ℕ → Program Bool) (before : Bool) (minute : ℤ) : Type 0 where
  pub moment : ℕ
  pub of_day : moment < 1536
  pub at_first : ComesToAlways (holds moment) before
  pub at_last : ComesToAlways (holds (suc moment)) (not before)
  pub from : pos (30 * moment) ≤ℤ (pos 32 *ℤ minute)
  pub to : (pos 32 *ℤ minute) ≤ℤ pos (30 * suc moment + 1)

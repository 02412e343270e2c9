-- How many spans of 30 degrees the sun may have to go.
use Rattle.std.specs.Prelude.{ℤ, pos, negsuc, ◌≤ℤ◌}

-- at most twelve spans
pub record IsTermCount (q : ℤ) : Type 0 where
  pub from : negsuc 11 ≤ℤ q
  pub to : q ≤ℤ pos 12

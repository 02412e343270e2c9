-- Where the day of a phase lies.
use Rattle.std.specs.Prelude.{ℤ, pos, ◌+ℤ◌, ◌-ℤ◌, ◌≤ℤ◌}
use Rattle.book_model.specs.declared.time_tables.TheConstants.{TABLE_START, TABLE_END}

-- the day of a phase lies there too
pub record IsPhaseDay (v : ℤ) : Type 0 where
  pub from : (TABLE_START -ℤ pos 39) ≤ℤ v
  pub to : v ≤ℤ (TABLE_END +ℤ pos 12)

-- From where to where the days lie from which a first visibility is sought.
use Rattle.std.specs.Prelude.{ℤ, pos, ◌+ℤ◌, ◌-ℤ◌, ◌≤ℤ◌}
use Rattle.book_model.specs.declared.time_tables.TheConstants.{TABLE_START, TABLE_END}

abbrev pub IsDayOfVisibility : ℤ → Type 0
IsDayOfVisibility day = ((TABLE_START -ℤ pos 69) ≤ℤ day) × (day ≤ℤ (TABLE_END +ℤ pos 41))

-- a day of the years of which ΔT is known
abbrev pub IsTableDay : ℤ → Type 0
IsTableDay day = (TABLE_START ≤ℤ day) × (day ≤ℤ TABLE_END)

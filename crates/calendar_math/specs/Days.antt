-- From where to where days, counts and spans lie.
use Rattle.std.specs.Prelude.{◌<◌, ◌^◌, ℤ, pos, negsuc, ◌≤ℤ◌}
use Rattle.book_model.specs.declared.frac.Frac.{Frac}

-- a day whose date the calendars tell
abbrev pub IsCalendarDay : ℤ → Type 0
IsCalendarDay day = (pos 0 ≤ℤ day) × (day ≤ℤ pos 1000000)

-- a count of which spans are taken, or their days
abbrev pub IsSpanCount : ℤ → Type 0
IsSpanCount count = (negsuc 99999999 ≤ℤ count) × (count ≤ℤ pos 100000000)

-- a span of at least a day, in parts that aren't many
abbrev pub IsSpan : Frac → Type 0
IsSpan span = (0 < span.den) × (pos span.den ≤ℤ span.num) × (span.num ≤ℤ pos (2 ^ 35))

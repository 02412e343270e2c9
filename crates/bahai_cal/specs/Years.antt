-- From where to where the numbers lie that the rules go by.
use Rattle.std.specs.Prelude.{ℤ, pos, negsuc, ◌≤ℤ◌}
use Rattle.book_model.specs.declared.bahai.BahaiMonth.{BahaiMonth}
use Rattle.book_model.specs.declared.bahai.MonthStart.{MonthStart}
use Rattle.book_model.specs.sky.Facts.{IsFactDay}

-- the years before one that a value of a fact begins, or so
abbrev pub IsNearYear : ℤ → Type 0
IsNearYear passed = (negsuc 39999 ≤ℤ passed) × (passed ≤ℤ pos 40000)

-- the number of a month by values of facts
abbrev pub IsNearNumber : ℤ → Type 0
IsNearNumber number = (negsuc 999999 ≤ℤ number) × (number ≤ℤ pos 1000000)

-- a month by values of facts
abbrev pub IsNearMonth : BahaiMonth → Type 0
IsNearMonth month = IsNearNumber month.number × IsFactDay month.first_day

-- the number of a year by the cycles of a date
abbrev pub IsCountedYear : ℤ → Type 0
IsCountedYear number = (negsuc 19999 ≤ℤ number) × (number ≤ℤ pos 20000)

-- from where a month of such a year is counted
abbrev pub IsMonthStart : MonthStart → Type 0
IsMonthStart start = (negsuc 20000 ≤ℤ start.passed) × (start.passed ≤ℤ pos 20000) × (negsuc 18 ≤ℤ start.days)
    × (start.days ≤ℤ pos 342)

-- From where to where the days lie that the rules go by.
use Rattle.std.specs.Prelude.{ℤ, pos, negsuc, ◌≤ℤ◌}
use Rattle.book_model.specs.declared.chinese.ChineseMonth.{ChineseMonth}
use Rattle.book_model.specs.declared.chinese.Sui.{Sui}
use Rattle.book_model.specs.sky.Facts.{IsFactValue}

-- a day that is a value of a fact, or near one
abbrev pub IsNearDay : ℤ → Type 0
IsNearDay day = (negsuc 10999999 ≤ℤ day) × (day ≤ℤ pos 11000000)

-- a sui by values of facts
abbrev pub IsNearSui : Sui → Type 0
IsNearSui sui = IsFactValue sui.first_month × IsFactValue sui.next_solstice

-- a month that begins on a value of a fact
abbrev pub IsNearMonth : ChineseMonth → Type 0
IsNearMonth month = IsFactValue month.first_day × (pos 1 ≤ℤ month.number) × (month.number ≤ℤ pos 12)

-- years since the epoch, by values of facts
abbrev pub AreNearYears : ℤ → Type 0
AreNearYears years = (negsuc 99999 ≤ℤ years) × (years ≤ℤ pos 100000)

-- the number of a year by the cycles of a date
abbrev pub IsCountedYear : ℤ → Type 0
IsCountedYear number = (negsuc 9998 ≤ℤ number) × (number ≤ℤ pos 9999)

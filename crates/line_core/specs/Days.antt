-- The days for which what a word is about exists, and those that are known without any fact.
use Rattle.std.specs.Prelude.{ℤ, pos}
use Rattle.book_model.specs.declared.calendar.Calendar.{Calendar}
use Rattle.book_model.specs.declared.calendar.Calendar.TheVariants.{Gregorian, Fixed}
use Rattle.book_model.specs.declared.request.Fields.{Fields}
use Rattle.book_model.specs.declared.words.Meaning.{Meaning}
use Rattle.book_model.specs.declared.words.Meaning.TheVariants.{Date, Value}
use Rattle.book_model.specs.calendars.Dates.{IsDateDay, gregorian_day, fixed_day}
use Rattle.book_model.specs.sky.Facts.{IsFactDay}

-- a date of the day, which its calendar tells, or the value of a fact of the day, which may be asked
abbrev pub IsTold : Meaning → ℤ → Type 0
IsTold (Date c) day = IsDateDay c day
IsTold (Value kind place) day = IsFactDay day

-- the day of a date, where it is known without any fact, and else 0
abbrev pub known_day : Calendar → Fields → ℤ
known_day Gregorian f = gregorian_day f
known_day Fixed f = fixed_day f
known_day c f = pos 0

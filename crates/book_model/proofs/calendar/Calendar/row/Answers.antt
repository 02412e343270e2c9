use Rattle.std.proofs.Common.{ap, sym}
use Rattle.book_model.specs.calendars.Dates.{row_of}
use Rattle.book_model.proofs.calendar.Calendar.row.Goals as goal

pub returns-in-Gregorian : goal.returns-in-Gregorian
returns-in-Gregorian c = record { row = ap row_of (sym c.in-Gregorian.is) }

pub returns-in-Fixed : goal.returns-in-Fixed
returns-in-Fixed c = record { row = ap row_of (sym c.in-Fixed.is) }

pub returns-in-Persian : goal.returns-in-Persian
returns-in-Persian c = record { row = ap row_of (sym c.in-Persian.is) }

pub returns-in-Bahai : goal.returns-in-Bahai
returns-in-Bahai c = record { row = ap row_of (sym c.in-Bahai.is) }

pub returns-in-Chinese : goal.returns-in-Chinese
returns-in-Chinese c = record { row = ap row_of (sym c.in-Chinese.is) }

pub returns-in-Vietnamese : goal.returns-in-Vietnamese
returns-in-Vietnamese c = record { row = ap row_of (sym c.in-Vietnamese.is) }

pub returns-in-Korean : goal.returns-in-Korean
returns-in-Korean c = record { row = ap row_of (sym c.in-Korean.is) }

pub returns-in-Japanese : goal.returns-in-Japanese
returns-in-Japanese c = record { row = ap row_of (sym c.in-Japanese.is) }

pub returns-in-Islamic : goal.returns-in-Islamic
returns-in-Islamic c = record { row = ap row_of (sym c.in-Islamic.is) }

pub returns-in-HinduSolar : goal.returns-in-HinduSolar
returns-in-HinduSolar c = record { row = ap row_of (sym c.in-HinduSolar.is) }

pub returns-in-HinduLunar : goal.returns-in-HinduLunar
returns-in-HinduLunar c = record { row = ap row_of (sym c.in-HinduLunar.is) }

pub returns-in-French : goal.returns-in-French
returns-in-French c = record { row = ap row_of (sym c.in-French.is) }

pub returns-in-HebrewObserved : goal.returns-in-HebrewObserved
returns-in-HebrewObserved c = record { row = ap row_of (sym c.in-HebrewObserved.is) }

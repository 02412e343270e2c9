-- Dates by the Gregorian year in which Nisan came last.
use Rattle.std.specs.Prelude.{ℤ}
use Rattle.book_model.specs.declared.request.Fields.{Fields}
use Rattle.book_model.specs.calendars.HebrewObserved.{hebrew_by, nisan_fact}
use Rattle.book_model.specs.calendars.Inquiries.{Inquiry, ask, done}

-- the date of a day of a month that begins on a day, by the first of Nisan that is asked of the year
abbrev pub hebrew_in_year : (day first nisan_year : ℤ) → Inquiry Fields
hebrew_in_year day first nisan_year = ask (nisan_fact nisan_year) λ nisan. done (hebrew_by day first nisan_year nisan)

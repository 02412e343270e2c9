-- Dates of the Chinese calendar as the fields of a result.
use Rattle.std.specs.Prelude.{[], ◌∷◌, pos}
use Rattle.book_model.specs.declared.request.Fields.{Fields}
use Rattle.book_model.specs.calendars.Inquiries.{flag}
use Rattle.chinese_cal.specs.declared.date.ChineseDate.{ChineseDate}

-- cycle, year, month, leap month and day
abbrev pub fields_of_date : ChineseDate → Fields
fields_of_date date = record {
  count = 5;
  values = date.cycle ∷ pos date.year ∷ pos date.month ∷ flag date.leap
      ∷ pos date.day ∷ [];
}

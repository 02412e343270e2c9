-- Dates of the Bahá'í calendar as the fields of a result.
use Rattle.std.specs.Prelude.{[], ◌∷◌, pos}
use Rattle.book_model.specs.declared.request.Fields.{Fields}
use Rattle.bahai_cal.specs.declared.date.BahaiDate.{BahaiDate}

-- major cycle, cycle, year, month and day
abbrev pub fields_of_date : BahaiDate → Fields
fields_of_date date = record {
  count = 5;
  values = date.major ∷ pos date.cycle ∷ pos date.year ∷ pos date.month
      ∷ pos date.day ∷ [];
}

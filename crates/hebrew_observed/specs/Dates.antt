-- Dates of the Hebrew calendar as the fields of a result.
use Rattle.std.specs.Prelude.{[], ◌∷◌, pos}
use Rattle.book_model.specs.declared.request.Fields.{Fields}
use Rattle.hebrew_observed.specs.declared.date.HebrewDate.{HebrewDate}

-- year, month and day
abbrev pub fields_of_date : HebrewDate → Fields
fields_of_date date = record { count = 3; values = date.year ∷ pos date.month ∷ pos date.day ∷ pos 0 ∷ pos 0 ∷ [] }

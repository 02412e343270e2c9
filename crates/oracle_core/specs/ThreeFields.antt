-- Dates of three fields.
use Rattle.std.specs.Prelude.{ℕ, [], ◌∷◌, ℤ, pos}
use Rattle.book_model.specs.declared.request.Fields.{Fields}

-- year, month and day
abbrev pub fields_of_three : ℤ → ℕ → ℕ → Fields
fields_of_three year month day = record { count = 3; values = year ∷ pos month ∷ pos day ∷ pos 0 ∷ pos 0 ∷ [] }

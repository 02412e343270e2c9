-- The fields of the date of a day. civil_core gives year, month and day as those of the definition's day; each is small
-- enough to be its own nearest number of 32 bits, so the fields are equal by rewriting.
use Rattle.std.proofs.Common.{◌≡◌, ℕ, ℤ, pos, negsuc, ◌≤ℤ◌, [], ◌∷◌, refl, arith}
use Rattle.std.proofs.lemmas.Int.{ints}
use Rattle.book_model.specs.declared.request.Fields.{Fields}
use Rattle.book_model.specs.calendars.Inquiries.{to_32_bits}
use Rattle.book_model.specs.calendars.Dates.{gregorian_fields_on}
use Rattle.civil_core.specs.Dates.{IsDateOfDay}

-- a number of 32 bits is its own nearest
small_is_nearest : (z : ℤ) → negsuc 2147483647 ≤ℤ z → z ≤ℤ pos 2147483647 → to_32_bits z ≡ z
small_is_nearest z low high = grind (arith, ints, low, high)

-- three values as the fields of a date
abbrev pub three : ℤ → ℤ → ℤ → Fields
three y m d = record { count = 3; values = y ∷ m ∷ d ∷ pos 0 ∷ pos 0 ∷ [] }

-- the fields of the date of a day
pub fields_of_date : (day year : ℤ) (month day_of : ℕ) → IsDateOfDay year month day_of day → negsuc 2147483647 ≤ℤ year
    → year ≤ℤ pos 2147483647
    → gregorian_fields_on day ≡ three year (pos month) (pos day_of)
unfolding gregorian_fields_on
fields_of_date day year month day_of is low high = rw (is.year, is.month, is.day, small_is_nearest year low high) refl

-- The day of a date that a line names. civil_core says when it finds a day and which, of a signed year and of numbers
-- of its own types; each number of the line is the same number there, so both statements are rewritten into those of
-- the definitions. No day is computed here.
use Rattle.std.specs.Prelude.{◌≡◌, ◌↔◌, ℕ, ℤ, pos, Result, Ok, Err, IsSome, IfSome, IfOk, IsOk, IsTrue}
use Rattle.std.proofs.Common.{sym}
use Rattle.std.specs.Result.{result_ok}
use Rattle.book_model.specs.calendars.Gregorian.{is_date, fixed_of}
use Rattle.civil_core.specs.Dates.{has_date, IsDateOfDay}
use Rattle.civil_core.proofs.Conversions.{ok_exactly}
use Rattle.civil_core.proofs.Days.{has_date_is}

-- the day is found exactly where the calendar has the date
pub found_exactly : {T E : Type 0} (r : Result T E) (y m d : ℕ) (year : ℤ) (month day : ℕ) → year ≡ pos y → month ≡ m
    → day ≡ d
    → IsOk r ↔ IsTrue (has_date year month day) → IsSome (result_ok r) ↔ IsTrue (is_date y m d)
found_exactly r y m d year month day same_year same_month same_day exact =
    rw (same_year, same_month, same_day, has_date_is y m d) at (ok_exactly r exact)

-- and it is that of the definitions
pub found_day : {E : Type 0} (r : Result ℤ E) (y m d : ℕ) (year : ℤ) (month day : ℕ) → year ≡ pos y → month ≡ m
    → day ≡ d → IfOk r (IsDateOfDay year month day)
    → IfSome (result_ok r) (λ n. n ≡ fixed_of y m d)
found_day (Ok n) y m d year month day same_year same_month same_day h = let e = rw (same_year, same_month, same_day) at
    h.number in sym e
found_day (Err e) y m d year month day same_year same_month same_day h = tt

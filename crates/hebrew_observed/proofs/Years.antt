-- The Gregorian years of the days whose dates the calendar tells. Years rise with days, so it is enough to compute
-- those of the first and of the last of these days; the year of any between lies between them.
use Rattle.std.specs.Prelude.{◌≡◌, ℤ, pos, ◌≤ℤ◌, refl}
use Rattle.std.proofs.Common.{arith}
use Rattle.std.proofs.lemmas.Int.{ints}
use Rattle.book_model.specs.calendars.Gregorian.{first_day, year_of_day}
use Rattle.book_model.proofs.Calendars.{year_mono}
use Rattle.hebrew_observed.specs.Months.{IsCalendarYear}

first_year : year_of_day (pos 400) ≡ pos 2
unfolding year_of_day first_day
first_year = refl

last_year : year_of_day (pos 1000000) ≡ pos 2738
unfolding year_of_day first_day
last_year = refl

pub year_near : (day : ℤ) → pos 400 ≤ℤ day → day ≤ℤ pos 1000000 → IsCalendarYear (year_of_day day)
year_near day h k =
    let from = year_mono (pos 400) day h in
    let to = year_mono day (pos 1000000) k in
    (omega (arith, ints, from, first_year), omega (arith, ints, to, last_year))

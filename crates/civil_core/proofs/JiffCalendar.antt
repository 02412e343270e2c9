-- The calendar of jiff and that of the definitions are one: day numbers, dates and years agree.
use Rattle.std.specs.Prelude.{◌&&◌, nat_lt, nat_le, ◌≡◌, ◌↔◌, ℕ, zero, suc, ◌+◌, ◌-◌, ◌≤◌, true, ℤ, pos, ◌+ℤ◌, ◌-ℤ◌}
use Rattle.std.specs.Prelude.{refl}
use Rattle.std.proofs.Common.{arith, ap, sym}
use Rattle.std.proofs.lemmas.Bool.Decides.{nat_tests}
use Rattle.std.proofs.lemmas.Int.{ints}
use Rattle.book_model.proofs.Floors.{floor_quotient_is}
use Rattle.book_model.specs.calendars.Gregorian.{first_day, year_of_day, IsYearOfDay, is_date, days_in_month}
use Rattle.book_model.specs.calendars.Gregorian.{days_of_months, fixed_of}
use Rattle.book_model.proofs.Calendars.{year_is, year_unique}
use Rattle.jiff_core.specs.declared.civil.date.Date.{Date}
use Rattle.jiff_core.specs.Calendar.{IsYear, IsBetween, IsDate, day_count, days_from_civil}
use Rattle.jiff_core.specs.Calendar.{days_of_months as jiff_days_of_months}
use Rattle.jiff_core.specs.Date.{epoch_day, IsYmd}
use Rattle.jiff_core.specs.March.{march_days}
use Rattle.jiff_core.proofs.SignedLemmas.{signed_arith}
use Rattle.jiff_core.proofs.MarchLemmas.{day_count-early}
use Rattle.jiff_core.proofs.CalendarLemmas.{days_from_civil-day_count, day_count-day_of_year, day_of_year_bound}
use Rattle.jiff_core.proofs.CalendarLemmas.{day_count-next_year}
use Rattle.jiff_core.proofs.DateLemmas.{civil}
use borrow.Author.Differences.{up, down}

-- a year's first day in jiff's count, which begins in the year -10000
first_day_counted : (y : ℤ) (n : ℕ) → y +ℤ pos 10000 ≡ pos (suc n) → first_day y +ℤ pos 3652790 ≡ pos (day_count y 1 1)
unfolding first_day
first_day_counted y n e =
    let c : day_count y 1 1 ≡ march_days n + 366 = omega (
      arith,
      day_count-early y n 1 1 e (omega arith) (omega arith)
          (omega arith),
    ) in
    let f = floor_quotient_is (y -ℤ pos 1) 3 in
    let h = floor_quotient_is (y -ℤ pos 1) 99 in
    let g = floor_quotient_is (y -ℤ pos 1) 399 in
    omega (arith, ints, f.not_above, f.close, h.not_above, h.close, g.not_above, g.close)

-- the months have the same days
months_agree : (y n : ℕ) → days_of_months y n ≡ jiff_days_of_months (pos y) n
unfolding days_of_months jiff_days_of_months
months_agree y zero = refl
months_agree y (suc n) = ap (λ k. k + days_in_month y (suc n)) (months_agree y n)

-- the day number of a date
fixed_agrees : (y m d : ℕ) → 1 ≤ d → fixed_of y m d ≡ days_from_civil (pos y) m d +ℤ pos 719163
unfolding fixed_of
fixed_agrees y m d h =
    let first = first_day_counted (pos y) (y + 9999) (omega (arith, ints)) in
    let day = days_from_civil-day_count (pos y) m d in
    let count = day_count-day_of_year (pos y) m d h in
    let months = months_agree y (m - 1) in
    omega (arith, signed_arith)

-- the day number of jiff's date
pub day_agrees : (date : Date) (y m d : ℕ) → IsYmd (pos y) (pos m) (pos d) date
    → fixed_of y m d ≡ epoch_day date +ℤ pos 719163
day_agrees date y m d (year, month, day) =
    let same_month : date.month ≡ m = omega (arith, ints) in
    let same_day : date.day ≡ d = omega (arith, ints) in
    rw (year, same_month, same_day) (fixed_agrees y m d (omega (arith, date.day_in)))

-- day 1 is 1 January of the year 1
pub day_one : (date : Date) → IsYmd (pos 1) (pos 1) (pos 1) date → epoch_day date +ℤ pos 719163 ≡ pos 1
unfolding fixed_of first_day days_of_months
day_one date h = sym (day_agrees date 1 1 1 h)

-- the tests of a date, where its month has k days
tests_agree : (y m d k : ℕ)
    → (nat_lt 0 y && nat_lt y 10000 && nat_lt 0 m && nat_lt m 13 && nat_lt 0 d && nat_le d k ≡ true)
    ↔ ((1 ≤ y) × (y ≤ 9999) × (1 ≤ m) × (m ≤ 12) × (1 ≤ d) × (d ≤ k))
tests_agree y m d k = (there, λ h. grind (arith, nat_tests, h.0, h.1, h.2, h.3, h.4, h.5))
  where
    there : nat_lt 0 y && nat_lt y 10000 && nat_lt 0 m && nat_lt m 13 && nat_lt 0 d && nat_le d k ≡ true
        → (1 ≤ y) × (y ≤ 9999) × (1 ≤ m) × (m ≤ 12) × (1 ≤ d) × (d ≤ k)
    there h = (
      grind (arith, nat_tests),
      grind (arith, nat_tests),
      grind (arith, nat_tests),
      grind (arith, nat_tests),
      grind (arith, nat_tests),
      grind (arith, nat_tests),
    )

-- the dates of the years from 1 on that jiff has are those of the definitions
pub date_is : (y m d : ℕ) → is_date y m d ≡ true → IsDate (pos y) (pos m) (pos d) × (1 ≤ y)
date_is y m d e =
    let t = (tests_agree y m d (days_in_month y m)).0 e in
    let year : IsYear (pos y) = (omega (arith, ints), omega (arith, ints, t.1)) in
    let month : IsBetween (pos 1) (pos 12) (pos m) = (omega (arith, ints, t.2), omega (arith, ints, t.3)) in
    let day : IsBetween (pos 1) (pos (days_in_month y m)) (pos d) = (omega (arith, ints, t.4), omega (arith, ints, t.5))
    in
    ((year, month, day), t.0)

pub is_date_of : (y m d : ℕ) → IsDate (pos y) (pos m) (pos d) → 1 ≤ y → is_date y m d ≡ true
is_date_of y m d (year, month, day) first =
    (tests_agree y m d (days_in_month y m)).1 (
      first,
      omega (arith, ints, year.1),
      omega (arith, ints, month.0),
      omega (arith, ints, month.1),
      omega (arith, ints, day.0),
      omega (arith, ints, day.1),
    )

-- a date's year is the year of its day
pub year_agrees : (d : Date) → year_of_day (epoch_day d +ℤ pos 719163) ≡ d.year
year_agrees d =
    year_unique _ d.year (epoch_day d +ℤ pos 719163) (year_is (epoch_day d +ℤ pos 719163))
    (holds (up d.year + 9999 - down d.year) (omega (arith, signed_arith, d.year_in)))
  where
    holds : (n : ℕ) → d.year +ℤ pos 10000 ≡ pos (suc n) → IsYearOfDay d.year (epoch_day d +ℤ pos 719163)
    holds n e =
        let first = first_day_counted d.year n e in
        let second = first_day_counted (d.year +ℤ pos 1) (suc n) (omega (arith, signed_arith)) in
        let next = day_count-next_year d.year (d.year +ℤ pos 1) (omega (arith, signed_arith)) refl in
        let day = days_from_civil-day_count d.year d.month d.day in
        let count = day_count-day_of_year d.year d.month d.day d.day_in.0 in
        let bound = day_of_year_bound d.year d.month d.day (civil d) in
        record { begun = omega (arith, signed_arith, d.day_in); not_over = omega (arith, signed_arith) }

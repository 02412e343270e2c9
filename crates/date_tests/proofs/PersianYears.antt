-- Persian dates of which the day may be asked.
use Rattle.std.proofs.Common.{◌≡◌, ◌≤◌, nat_le, true, refl, sym, subst, arith, ℕ, ℤ, pos, negsuc, ◌≤ℤ◌}
use Rattle.std.proofs.lemmas.Bool.Decides.{nat_tests}
use Rattle.std.proofs.lemmas.Int.{ints}
use Rattle.std.specs.Prelude.{int_le, IsTrue}
use Rattle.book_model.specs.declared.calendar.Calendar.TheVariants.{Persian}
use Rattle.book_model.specs.calendars.Dates.{row_of, may_have, has_some_year, year_number, IsAskable}
use Rattle.book_model.specs.calendars.Versions.{is_in_some}
use Rattle.persian_cal.specs.declared.date.PersianDate.{PersianDate}
use Rattle.persian_cal.specs.Dates.{fields_of_date}

-- the number of the year is that of the date
year_is : (y m d : ℕ) → year_number (row_of Persian) (fields_of_date (record { year = pos y; month = m; day = d }))
    ≡ pos y
unfolding year_number
year_is y m d = omega (arith, ints)

-- the day of a date of the years 1180 to 1427 may be asked
pub askable : (date : PersianDate)
    → pos 1180 ≤ℤ date.year → date.year ≤ℤ pos 1427 → 1 ≤ date.month → date.month ≤ 12 → 1 ≤ date.day → date.day ≤ 31
    → IsAskable Persian (fields_of_date date)
unfolding may_have has_some_year
askable date from to m n p q = by date.year from to
  where
    by : (year : ℤ) → pos 1180 ≤ℤ year → year ≤ℤ pos 1427
        → IsAskable Persian (fields_of_date (record date { year = year }))
    by (pos y) from to =
        let a : nat_le 1 y ≡ true = grind (arith, ints, nat_tests) in
        let b : nat_le y 9999 ≡ true = grind (arith, ints, nat_tests) in
        let c : nat_le 1 date.month ≡ true = grind (arith, nat_tests) in
        let d : nat_le date.month 12 ≡ true = grind (arith, nat_tests) in
        let e : nat_le 1 date.day ≡ true = grind (arith, nat_tests) in
        let f : nat_le date.day 31 ≡ true = grind (arith, nat_tests) in
        let g : int_le (pos 1180) (pos y) ≡ true = grind (arith, ints) in
        let h : int_le (pos y) (pos 1427) ≡ true = grind (arith, ints) in (
          rw (a, b, c, d, e, f) refl,
          subst (λ z. IsTrue (is_in_some (row_of Persian).years z))
              (sym (year_is y date.month date.day)) (rw (g, h) refl),
        )
    by (negsuc y) from to = absurd (omega (arith, ints, from))

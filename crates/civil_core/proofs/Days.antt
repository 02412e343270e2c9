-- The dates that jiff has are those of the definitions, each with its day.
use Rattle.std.proofs.Common.{◌≡◌, ℕ, zero, suc, ◌-◌, ◌≤◌, ℤ, pos, negsuc, ◌+ℤ◌, ◌≤ℤ◌, true, refl, ap, arith}
use Rattle.std.proofs.lemmas.Int.{ints, by_lt_z}
use Rattle.std.specs.Prelude.{◌↔◌, ◌&&◌, int_lt, Result, Ok, Err, IsOk, IfOk, IsSome, IfSome, IsTrue}
use Rattle.std.specs.Result.{result_ok}
use Rattle.book_model.specs.calendars.Gregorian.{first_day, year_of_day, is_date, days_in_month, fixed_of}
use Rattle.book_model.proofs.Calendars.{year_is, first_day_rises}
use Rattle.jiff_core.specs.declared.civil.date.Date.{Date}
use Rattle.jiff_core.specs.Calendar.{IsDate, IsBetween}
use Rattle.jiff_core.specs.Date.{epoch_day, IsYmd}
use Rattle.jiff_core.proofs.DateLemmas.{civil, epoch_day_range}
use Rattle.civil_core.specs.Dates.{has_date, IsDateOfDay}
use Rattle.civil_core.proofs.Conversions.{ok_exactly}
use Rattle.civil_core.proofs.JiffCalendar.{date_is, is_date_of, day_agrees, year_agrees}
use Rattle.civil_core.proofs.Months.{date_of_day}

-- day 1
first_of_all : first_day (pos 1) ≡ pos 1
unfolding first_day
first_of_all = refl

-- a day from 1 on falls in a year from 1 on
year_from_one : (day : ℤ) → pos 1 ≤ℤ day → pos 1 ≤ℤ year_of_day day
year_from_one day h =
    let y = year_is day in
    by_lt_z (year_of_day day) (pos 1)
    (λ l. let r = first_day_rises (year_of_day day +ℤ pos 1) (pos 1) (omega (arith, ints)) in
    absurd (omega (arith, ints, r, first_of_all, y.not_over)))
    (λ l. l)

-- and a day of a year from 1 on is day 1 or a later one
day_from_one : (day : ℤ) → pos 1 ≤ℤ year_of_day day → pos 1 ≤ℤ day
day_from_one day h =
    let y = year_is day in
    let r = first_day_rises (pos 1) (year_of_day day) h in
    omega (arith, ints, r, first_of_all, y.begun)

-- the year of jiff's date of a day from 1 on
pub year_of_date_from_one : (date : Date) (n : ℤ) → epoch_day date +ℤ pos 719163 ≡ n → pos 1 ≤ℤ n → pos 1 ≤ℤ date.year
year_of_date_from_one date n e from =
    let year : year_of_day n ≡ date.year = rw e at (year_agrees date) in
    rw year at (year_from_one n from)

-- a date of a year that is no less than 0
pub has_date_is : (y m d : ℕ) → has_date (pos y) m d ≡ is_date y m d
has_date_is zero m d = refl
has_date_is (suc y) m d = let e : int_lt (pos 0) (pos (suc y)) ≡ true = grind (arith, ints) in
    ap (λ b. b && is_date (suc y) m d) e

at_date : (date : Date) (n : ℤ) (y m : ℕ) → date.year ≡ pos y → date.month ≡ suc m → epoch_day date +ℤ pos 719163 ≡ n
    → 1 ≤ y
    → IsDateOfDay (pos y) (suc m) date.day n
at_date date n y m year month e first =
    let of_year : year_of_day n ≡ pos y = rw (e, year) at (year_agrees date) in
    let number : fixed_of y (suc m) date.day ≡ n =
    rw e at (day_agrees date y (suc m) date.day (year, ap pos month, refl)) in
    let is = rw (year, month) at (civil date) in
    let parts = date_of_day n y m date.day number of_year (omega (arith, is.1)) is.2.0 is.2.1 in
    let range = epoch_day_range date in
    let from : pos 1 ≤ℤ year_of_day n = rw of_year (omega (arith, ints)) in
    let in_year : IsBetween (pos 1) (pos 12) (pos (suc m)) = (omega (arith, ints), omega (arith, ints, is.1)) in
    let in_month : IsBetween (pos 1) (pos (days_in_month y (suc m))) (pos date.day) =
    (omega (arith, ints, is.2.0), omega (arith, ints, is.2.1)) in
    record {
      has = rw (has_date_is y (suc m) date.day) (is_date_of y (suc m) date.day (is.0, in_year, in_month) first);
      number = number;
      year = of_year;
      month = parts.0;
      day = parts.1;
      from = day_from_one n from;
      to = omega (arith, ints, range.1, e);
    }

natural : (z : ℤ) → pos 1 ≤ℤ z → (n : ℕ) × (z ≡ pos n)
natural (pos n) h = (n, refl)
natural (negsuc n) h = absurd (omega (arith, ints))

-- jiff's date of a year from 1 on is the date of its day
pub date_is_of_day : (date : Date) (n : ℤ) → epoch_day date +ℤ pos 719163 ≡ n → pos 1 ≤ℤ date.year
    → IsDateOfDay date.year date.month date.day n
date_is_of_day date n e from =
    let y = natural date.year from in
    let is = civil date in
    let month : date.month ≡ suc (date.month - 1) = omega (arith, is.1) in
    rw (y.1, month) (at_date date n y.0 (date.month - 1) y.1 month e (omega (arith, ints, y.1)))

-- the same of a date with these numbers
pub named_is_of_day : (date : Date) (year n : ℤ) (month day : ℕ) → IsYmd year (pos month) (pos day) date
    → IsTrue (has_date year month day)
    → epoch_day date +ℤ pos 719163 ≡ n → IsDateOfDay year month day n
named_is_of_day date year n month day named has e =
    let same_month : date.month ≡ month = omega (arith, ints, named.1) in
    let same_day : date.day ≡ day = omega (arith, ints, named.2) in
    let from : pos 1 ≤ℤ date.year = rw named.0 (grind (arith, ints, has)) in
    rw (named.0, same_month, same_day) at (date_is_of_day date n e from)

-- a date is found exactly where the calendar has it
pub found_exactly : {T E : Type 0} (r : Result T E) (year z k l : ℤ) (m d : ℕ) → z ≡ year → k ≡ pos m → l ≡ pos d
    → pos 1 ≤ℤ year → IsOk r ↔ IsDate z k l
    → IsSome (result_ok r) ↔ IsTrue (has_date year m d)
found_exactly r (pos y) z k l m d same_year same_month same_day first exact =
    let here = ok_exactly r (rw (same_year, same_month, same_day) at exact) in
    rw (has_date_is y m d) (λ f. is_date_of y m d (here.0 f) (omega (arith, ints)), λ t. here.1 (date_is y m d t).0)
found_exactly r (negsuc y) z k l m d same_year same_month same_day first exact = absurd (omega (arith, ints))

-- with these numbers
pub found_named : {E : Type 0} (r : Result Date E) (year z k l : ℤ) (m d : ℕ) → z ≡ year → k ≡ pos m → l ≡ pos d
    → IfOk r (IsYmd z k l)
    → IfSome (result_ok r) (IsYmd year (pos m) (pos d))
found_named (Ok date) year z k l m d same_year same_month same_day h = rw (same_year, same_month, same_day) at h
found_named (Err e) year z k l m d same_year same_month same_day h = tt

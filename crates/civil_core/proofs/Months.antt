-- The month and the day of a day that a date names.
use Rattle.std.proofs.Common.{◌≡◌, ℕ, zero, suc, ◌+◌, ◌-◌, ◌<◌, ◌≤◌, ℤ, pos, ◌+ℤ◌, ◌-ℤ◌, refl, arith}
use Rattle.std.proofs.lemmas.Bool.Decides.{nat_tests}
use Rattle.std.specs.Prelude.{unsigned_abs}
use Rattle.jiff_core.proofs.SignedLemmas.{signed_arith}
use Rattle.book_model.specs.calendars.Gregorian.{first_day, year_of_day, days_in_month, days_of_months, months_over}
use Rattle.book_model.specs.calendars.Gregorian.{days_over}
use Rattle.book_model.specs.calendars.Gregorian.{month_of_day, day_of_month, fixed_of}

-- more months have more days
months_rise : (y m k : ℕ) → days_of_months y m ≤ days_of_months y (k + m)
unfolding days_of_months
months_rise y m zero = let e : 0 + m ≡ m = omega arith in rw e (omega arith)
months_rise y m (suc k) = let e : suc k + m ≡ suc (k + m) = omega arith in let h = months_rise y m k in
    rw e (omega (arith, h))

-- the months that are over, where the first of them are and no more
over_here : (y k m : ℕ) → days_of_months y m ≤ k → months_over y k m ≡ m
unfolding months_over
over_here y k zero h = refl
over_here y k (suc m) h = grind (arith, nat_tests, h)

not_over : (y k n : ℕ) → k < days_of_months y (suc n) → months_over y k (suc n) ≡ months_over y k n
unfolding months_over
not_over y k n h = grind (arith, nat_tests, h)

over_exactly : (y k m n : ℕ) → days_of_months y m ≤ k → k < days_of_months y (suc m) → months_over y k (n + m) ≡ m
over_exactly y k m zero h l = let e : 0 + m ≡ m = omega arith in rw e (over_here y k m h)
over_exactly y k m (suc n) h l =
    let e : suc n + m ≡ suc (n + m) = omega arith in
    let s : n + suc m ≡ suc (n + m) = omega arith in
    let r : days_of_months y (suc m) ≤ days_of_months y (suc (n + m)) = rw s at (months_rise y (suc m) n) in
    rw (e, not_over y k (n + m) (omega (arith, r, l))) (over_exactly y k m n h l)

-- the days of the year that are over on a day of a month
days_over_of : (day : ℤ) (y m d : ℕ) → fixed_of y (suc m) d ≡ day → year_of_day day ≡ pos y → 1 ≤ d
    → days_over day ≡ days_of_months y m + (d - 1)
unfolding fixed_of
days_over_of day y m d named year from =
    let s : suc m - 1 ≡ m = omega arith in
    let n : first_day (pos y) +ℤ pos (days_of_months y m + d) -ℤ pos 1 ≡ day = rw s at named in
    let e : day -ℤ first_day (pos y) ≡ pos (days_of_months y m + (d - 1)) = omega (arith, signed_arith, n) in
    rw (year, e) refl

month_from : (day : ℤ) (y m k : ℕ) → unsigned_abs (year_of_day day) ≡ y → days_over day ≡ k → months_over y k 11 ≡ m
    → month_of_day day ≡ m + 1
unfolding month_of_day
month_from day y m k year over months = rw (year, over, months) refl

day_from : (day : ℤ) (y m k : ℕ) → unsigned_abs (year_of_day day) ≡ y → days_over day ≡ k → month_of_day day ≡ suc m
    → day_of_month day ≡ k - days_of_months y m + 1
unfolding day_of_month
day_from day y m k year over month = let s : suc m - 1 ≡ m = omega arith in rw (month, s, year, over) refl

next_month : (y m : ℕ) → days_of_months y (suc m) ≡ days_of_months y m + days_in_month y (suc m)
unfolding days_of_months
next_month y m = refl

-- the month and the day of the day that a date names
pub date_of_day : (day : ℤ) (y m d : ℕ) → fixed_of y (suc m) d ≡ day → year_of_day day ≡ pos y → m ≤ 11 → 1 ≤ d
    → d ≤ days_in_month y (suc m)
    → (month_of_day day ≡ suc m) × (day_of_month day ≡ d)
date_of_day day y m d named year to_december from to_last =
    let k : days_over day ≡ days_of_months y m + (d - 1) = days_over_of day y m d named year from in
    let a : unsigned_abs (year_of_day day) ≡ y = rw year refl in
    let rest : 11 - m + m ≡ 11 = omega arith in
    let next = next_month y m in
    let over : months_over y (days_of_months y m + (d - 1)) (11 - m + m) ≡ m = over_exactly y _ m (11 - m) (omega arith)
    (omega (arith, next)) in
    let one : m + 1 ≡ suc m = omega arith in
    let month : month_of_day day ≡ suc m = rw one at (month_from day y m _ a k (rw rest at over)) in
    let last : days_of_months y m + (d - 1) - days_of_months y m + 1 ≡ d = omega arith in
    (month, rw last at (day_from day y m _ a k month))

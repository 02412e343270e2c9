-- After 400 years, of 146097 days, the calendar repeats itself.
use Rattle.std.proofs.Common.{◌≡◌, ℤ, pos, ◌+ℤ◌, ◌-ℤ◌, ◌*ℤ◌, arith}
use Rattle.std.proofs.lemmas.Int.{ints}
use Rattle.book_model.proofs.Floors.{floor_quotient_is}
use Rattle.book_model.specs.calendars.Gregorian.{first_day, year_of_day, IsYearOfDay}
use Rattle.book_model.proofs.Calendars.{year_is, year_unique}

-- the first day of a year k times 400 years later
pub first_day_repeats : (y k : ℤ) → first_day (y +ℤ k *ℤ pos 400) ≡ first_day y +ℤ k *ℤ pos 146097
unfolding first_day
first_day_repeats y k =
    let f = floor_quotient_is (y -ℤ pos 1) 3 in
    let h = floor_quotient_is (y -ℤ pos 1) 99 in
    let g = floor_quotient_is (y -ℤ pos 1) 399 in
    let l = floor_quotient_is (y +ℤ k *ℤ pos 400 -ℤ pos 1) 3 in
    let m = floor_quotient_is (y +ℤ k *ℤ pos 400 -ℤ pos 1) 99 in
    let n = floor_quotient_is (y +ℤ k *ℤ pos 400 -ℤ pos 1) 399 in
    omega (
      arith,
      ints,
      f.not_above,
      f.close,
      h.not_above,
      h.close,
      g.not_above,
      g.close,
      l.not_above,
      l.close,
      m.not_above,
      m.close,
      n.not_above,
      n.close,
    )

-- the year of a day k times 146097 days later
pub year_repeats : (d k : ℤ) → year_of_day (d +ℤ k *ℤ pos 146097) ≡ year_of_day d +ℤ k *ℤ pos 400
year_repeats d k =
    let y = year_of_day d in
    let i = year_is d in
    let first = first_day_repeats y k in
    let second = first_day_repeats (y +ℤ pos 1) k in
    year_unique _ _ (d +ℤ k *ℤ pos 146097) (year_is (d +ℤ k *ℤ pos 146097)) (later y (year_is d))
  where
    later : (y : ℤ) → IsYearOfDay y d → IsYearOfDay (y +ℤ k *ℤ pos 400) (d +ℤ k *ℤ pos 146097)
    later y i =
        let first = first_day_repeats y k in
        let second = first_day_repeats (y +ℤ pos 1) k in
        let same : y +ℤ k *ℤ pos 400 +ℤ pos 1 ≡ y +ℤ pos 1 +ℤ k *ℤ pos 400 = omega (arith, ints) in
        record { begun = omega (arith, ints, i.begun); not_over = rw same (omega (arith, ints, i.not_over)) }
